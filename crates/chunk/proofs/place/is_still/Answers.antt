-- `chunk::place::is_still` meets its contract: a list whose count is 0 is empty. Assumes nothing.
use Prim.Native.Nat.{ℕ}
use mathlib.Core.Path.{◌≡◌, refl}
use mathlib.Core.List.{List}
use lib.Dec.{eqb}
use lib.ListN.{drop}
use Rattle.spec.specs.Lists.{is_empty}
use Rattle.spec.specs.Bytes.{be, float}
use Rattle.spec.specs.Decode.{float_size, list_of}
use Rattle.job_rows.proofs.Walks.{rows_empty}
use Rattle.chunk.proofs.place.is_still.Goals as goal

none-counted : (bs : List ℕ) {n : ℕ} → n ≡ be 2 bs → is_empty (list_of bs) ≡ eqb n 0
unfolding list_of
none-counted bs {n} e = rw e (rows_empty (λ r. float_size) float (be 2 bs) (drop 2 bs))

pub returns : goal.returns
returns c =
    let dx = c.u16_at in
    let dy = c.u16_at-2 in
    rw (none-counted _ dx.ensures, none-counted _ dy.ensures, none-counted _ c.u16_at-3.ensures) refl
