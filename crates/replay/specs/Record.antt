-- A stored record: the lent length, the number, the job with its length before it, the answer with its length before it. Definitions only.
use Rattle.std.specs.Prelude.{ℕ, ◌+◌, List, take, drop}
use Rattle.spec.specs.Bytes.{be}

unfoldable pub lent_of : List ℕ → ℕ
lent_of bs = be 4 bs

unfoldable pub number_of : List ℕ → ℕ
number_of bs = be 1 (drop 4 bs)

unfoldable pub job_of : List ℕ → List ℕ
job_of bs = take (be 4 (drop 5 bs)) (drop 9 bs)

-- where the answer's length stands
unfoldable pub answer_at : List ℕ → ℕ
answer_at bs = 9 + be 4 (drop 5 bs)

unfoldable pub answer_of : List ℕ → List ℕ
answer_of bs = take (be 4 (drop (answer_at bs) bs)) (drop (answer_at bs + 4) bs)

-- how many bytes the record has
unfoldable pub size_of : List ℕ → ℕ
size_of bs = answer_at bs + 4 + be 4 (drop (answer_at bs) bs)
