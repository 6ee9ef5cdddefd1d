-- The walk that collects a span's runs: one turn, its end, and that runs only grow in number; and the runs' bytes. Assumes nothing.
use Prim.Native.Nat.{ℕ, ◌+◌, ◌*◌, ◌≤◌, ◌<◌}
use mathlib.Core.Path.{◌≡◌, refl, sym, ap, ◌∙◌}
use mathlib.Core.Bool.{Bool, true, false, cond}
use mathlib.Core.List.{List, [], ◌∷◌, ◌++◌, foldl, foldl-append, flat_map, append-nil, append_assoc}
use native.Mathlib.Numerals.{add-one}
use native.Mathlib.Nat.{le_refl}
use native.Mathlib.Omega.{arith}
use lib.Dec.{ltb}
use lib.Ieee.{Float}
use lib.ListN.{length, get_or, take, drop, length-append, take-append-drop}
use lib.Seq.{take-suc, take_all}
use borrow.Author.Tests.{lt-ltb, le-ltb}
use Rattle.std.specs.Prelude.{Option, Some, None, option_to_list}
use Rattle.spec.specs.declared.Span.{Span}
use Rattle.spec.specs.declared.Run.{Run}
use Rattle.spec.specs.declared.Cluster.{Cluster}
use Rattle.spec.specs.Merge.{span_contains}
use Rattle.spec.specs.Decoration.{Collecting, waiting, started, Walking, ended, extend_run, collect_next, collect_decoration_spans}
use Rattle.spec.specs.Answer.{run_size, run_bytes}
use Rattle.spec_laws.proofs.All.{cond-keeps}
use Rattle.spec_laws.proofs.AnswerLength.{length-equal, length_run}
use Rattle.spec_laws.proofs.RunsShared.{span-runs, covered-few}
use Rattle.wire.specs.Splice.{splice}
use Rattle.wire.proofs.Splice.{splice-none, splice-then, length-splice}
use Rattle.decoration.specs.declared.OpenRun.{OpenRun}
use Rattle.decoration.specs.Runs.{no_run, opened, opened_by, ended_since}

-- ---- the definitions' state: the runs that have ended, and the one that has started, if any

abbrev pub collecting : List Run → Option Run → Collecting
collecting rs None = waiting rs
collecting rs (Some r) = started rs r

abbrev pub gone : Collecting → List Run
gone (waiting rs) = rs
gone (started rs r) = rs

gone-collecting : (rs : List Run) (r : Option Run) → gone (collecting rs r) ≡ rs
gone-collecting rs None = refl
gone-collecting rs (Some r) = refl

-- behind a cluster: the run that ended, if one did, is among those that have
module _ (rs : List Run) (e k : ℕ) (a : Float) where
  abbrev before : Option Run → OpenRun
  before r = record { ended = e; run = r }

  abbrev after : Option Run → Bool → Bool → OpenRun
  after r inside relative = opened (before r) k inside relative a

  more : ltb e (e + 1) ≡ true
  more = lt-ltb e (e + 1) (omega arith)

  none : ltb e e ≡ false
  none = le-ltb e e (le_refl e)

  next-open : (r : Option Run) (inside relative : Bool) → collecting (rs ++ ended_since (before r) (after r inside relative)) (after r inside relative).run
      ≡ cond inside (extend_run k relative a (collecting rs r)) (waiting (ended (collecting rs r)))
  unfolding opened extend_run ended_since
  next-open (Some r) true true = rw more
  next-open (Some r) true false = rw (none, append-nil rs)
  next-open (Some r) false relative = rw more
  next-open None true relative = rw (none, append-nil rs)
  next-open None false relative = rw (none, append-nil rs)

  next-count : (r : Option Run) (inside relative : Bool) → e + length (ended_since (before r) (after r inside relative)) ≡ (after r inside relative).ended
  unfolding opened ended_since
  next-count (Some r) true true = rw more
  next-count (Some r) true false = rw none (omega arith)
  next-count (Some r) false relative = rw more
  next-count None true relative = rw none (omega arith)
  next-count None false relative = rw none (omega arith)

-- ---- the walk

-- a cluster never makes the runs fewer
extended-more : (k : ℕ) (relative : Bool) (a : Float) (c : Collecting) → length (ended c) ≤ length (ended (extend_run k relative a c))
unfolding extend_run
extended-more k relative a (waiting rs) = simp length-append (omega arith)
extended-more k true a (started rs r) = simp length-append (omega arith)
extended-more k false a (started rs r) = simp length-append (omega arith)

gone-few : (c : Collecting) → length (gone c) ≤ length (ended c)
gone-few (waiting rs) = le_refl _
gone-few (started rs r) = simp length-append (omega arith)

module _ (s : Span) where
  next_more : (st : Walking) (c : Cluster) → length (ended st.runs) ≤ length (ended (collect_next s st c).runs)
  unfolding collect_next
  next_more st c =
      cond-keeps (λ (o : Collecting). length (ended st.runs) ≤ length (ended o)) (span_contains s c.index)
      (extended-more st.place c.relative c.advance st.runs) (le_refl _)

  walk_more : (st : Walking) (cs : List Cluster) → length (ended st.runs) ≤ length (ended (foldl (collect_next s) st cs).runs)
  walk_more st [] = le_refl _
  walk_more st (c ∷ cs) = omega (arith, next_more st c, walk_more (collect_next s st c) cs)

module _ (s : Span) (cs : List Cluster) where
  -- before cluster i, and the runs that have ended there
  abbrev start : Walking
  start = record { place = 0; runs = waiting [] }

  abbrev walk_to : ℕ → Walking
  walk_to i = foldl (collect_next s) start (take i cs)

  abbrev pub gone_to : ℕ → List Run
  gone_to i = gone (walk_to i).runs

  pub record Walked (i : ℕ) (o : OpenRun) : Type 0 where
    pub state : walk_to i ≡ record { place = i; runs = collecting (gone_to i) o.run }
    pub count : length (gone_to i) ≡ o.ended

  pub walked_start : Walked 0 no_run
  walked_start = record { state = refl; count = refl }

  -- never more than there are in the end, and these no more than clusters
  gone-within : (i : ℕ) → length (gone_to i) ≤ length (collect_decoration_spans s cs)
  unfolding collect_decoration_spans
  gone-within i =
      let all : foldl (collect_next s) (walk_to i) (drop i cs) ≡ foldl (collect_next s) start cs =
      sym (foldl-append (collect_next s) start (take i cs) (drop i cs)) ∙ ap (foldl (collect_next s) start) (take-append-drop i cs) in
      omega (arith, gone-few (walk_to i).runs, rw all at (walk_more s (walk_to i) (drop i cs)))

  pub runs-few : length (collect_decoration_spans s cs) ≤ length cs
  runs-few = omega (arith, span-runs s cs, covered-few s cs)

  module _ (i : ℕ) (o : OpenRun) (w : Walked i o) where
    pub few-ended : o.ended ≤ length cs
    few-ended = omega (arith, w.count, gone-within i, runs-few)

    module _ (o' : OpenRun) where
      abbrev gone_now : List Run
      gone_now = gone_to i ++ ended_since o o'

      -- behind cluster i
      module _ (d : Cluster) (h : i < length cs) (e : o' ≡ opened_by s o i (get_or cs i d)) where
        walk_turn : walk_to (i + 1) ≡ record { place = i + 1; runs = collecting gone_now o'.run }
        unfolding collect_next
        walk_turn =
            let c = get_or cs i d in
            rw (add-one i, take-suc cs i d h) (foldl-append (collect_next s) start (take i cs) (c ∷ []))
            ∙ ap (λ (st : Walking). collect_next s st c) w.state
            ∙ ap (λ (runs : Collecting). record { place = i + 1; runs = runs })
            (rw e (sym (next-open (gone_to i) o.ended i c.advance o.run (span_contains s c.index) c.relative)))

        pub gone-turn : gone_to (i + 1) ≡ gone_now
        gone-turn = ap (λ (st : Walking). gone st.runs) walk_turn ∙ gone-collecting gone_now o'.run

        pub walked-turn : Walked (i + 1) o'
        walked-turn =
            let c = get_or cs i d in
            let more = rw (← e) at (next-count (gone_to i) o.ended i c.advance o.run (span_contains s c.index) c.relative) in
            record {
              state = walk_turn ∙ ap (λ (rs : List Run). record { place = i + 1; runs = collecting rs o'.run }) (sym gone-turn);
              count = ap length gone-turn ∙ length-append (gone_to i) (ended_since o o') ∙ omega (arith, w.count, more);
            }

      -- behind the last one
      module _ (h : length cs ≤ i) (k : ℕ) (relative : Bool) (a : Float) (e : o' ≡ opened o k false relative a) where
        pub walked_end : collect_decoration_spans s cs ≡ gone_now
        unfolding collect_decoration_spans
        walked_end =
            ap (λ (xs : List Cluster). ended (foldl (collect_next s) start xs).runs) (sym (take_all i cs h))
            ∙ ap (λ (st : Walking). ended st.runs) w.state
            ∙ sym (ap gone (rw (← e) at (next-open (gone_to i) o.ended k a o.run false relative)))
            ∙ gone-collecting gone_now o'.run

        pub count-end : length (collect_decoration_spans s cs) ≡ o'.ended
        count-end =
            let more = rw (← e) at (next-count (gone_to i) o.ended k a o.run false relative) in
            ap length walked_end ∙ length-append (gone_to i) (ended_since o o') ∙ omega (arith, w.count, more)

-- ---- runs behind runs

pub flat_map-append : {A B : Type 0} (f : A → List B) (xs ys : List A) → flat_map f (xs ++ ys) ≡ flat_map f xs ++ flat_map f ys
unfolding flat_map
flat_map-append f [] ys = refl
flat_map-append f (x ∷ xs) ys = ap (λ l. f x ++ l) (flat_map-append f xs ys) ∙ sym (append_assoc (f x) (flat_map f xs) (flat_map f ys))

pub length_runs : (runs : List Run) → length (flat_map run_bytes runs) ≡ run_size * length runs
length_runs = length-equal run_bytes run_size length_run

runs-put : (old : List ℕ) (at : ℕ) (rs es : List Run) {out out' : List ℕ} {n : ℕ} → length rs ≡ n → at + run_size * length (rs ++ es) ≤ length old
    → out ≡ splice old at (flat_map run_bytes rs) → out' ≡ splice out (at + run_size * n) (flat_map run_bytes es) → out' ≡ splice old at (flat_map run_bytes (rs ++ es))
runs-put old at rs es n room p q =
    let l = length-append rs es in
    splice-then old at (flat_map run_bytes rs) _ (flat_map run_bytes es) p q (omega (arith, length_runs rs)) (omega (arith, l, length_runs rs, length_runs es))
    ∙ ap (splice old at) (sym (flat_map-append run_bytes rs es))

-- one run has ended, or none

module _ (o next : OpenRun) where
  pub one_ended : (r : Run) → o.run ≡ Some r → o.ended < next.ended → flat_map run_bytes (ended_since o next) ≡ run_bytes r
  unfolding ended_since flat_map
  one_ended r e h = rw (lt-ltb o.ended next.ended h, e) (append-nil (run_bytes r))

  pub none-ended : next.ended ≤ o.ended → flat_map run_bytes (ended_since o next) ≡ []
  unfolding ended_since flat_map
  none-ended h = rw (le-ltb o.ended next.ended h)

  pub none-started : ((r : Run) → o.run ≡ Some r → ⊥) → flat_map run_bytes (ended_since o next) ≡ []
  unfolding ended_since flat_map
  none-started none_is = go o.run none_is (ltb o.ended next.ended)
    where
      go : (m : Option Run) → ((r : Run) → m ≡ Some r → ⊥) → (b : Bool) → flat_map run_bytes (cond b (option_to_list m) []) ≡ []
      go None _ true = refl
      go None _ false = refl
      go (Some r) none_is b = absurd (none_is r refl)

-- ---- the walk with the bytes

-- before cluster i: the runs that have ended are put, the first of them at `at`
pub record Written (s : Span) (cs : List Cluster) (old : List ℕ) (at i : ℕ) (o : OpenRun) (out : List ℕ) : Type 0 where
  pub walked : Walked s cs i o
  pub long : length out ≡ length old
  pub bytes : out ≡ splice old at (flat_map run_bytes (gone_to s cs i))

module _ (s : Span) (cs : List Cluster) (old : List ℕ) (at : ℕ) where
  pub written_start : Written s cs old at 0 no_run old
  unfolding flat_map
  written_start = record { walked = walked_start s cs; long = refl; bytes = sym (splice-none old at) }

  abbrev runs : List Run
  runs = collect_decoration_spans s cs

  module _ (room : at + run_size * length runs ≤ length old) (i : ℕ) (o : OpenRun) {out : List ℕ} (w : Written s cs old at i o out) (o' : OpenRun) where
    module _ (d : Cluster) (h : i < length cs) (e : o' ≡ opened_by s o i (get_or cs i d)) where
      next : Walked s cs (i + 1) o'
      next = walked-turn s cs i o w.walked o' d h e

      pub room-here : at + run_size * o'.ended ≤ length out
      room-here = omega (arith, room, w.long, next.count, gone-within s cs (i + 1))

      pub written-turn : {out' : List ℕ} → out' ≡ splice out (at + run_size * o.ended) (flat_map run_bytes (ended_since o o')) → Written s cs old at (i + 1) o' out'
      written-turn {out'} put =
          let more = gone-turn s cs i o w.walked o' d h e in
          let fits : at + run_size * length (gone_to s cs i ++ ended_since o o') ≤ length old = rw (← more) (omega (arith, room, gone-within s cs (i + 1))) in
          let is : out' ≡ splice old at (flat_map run_bytes (gone_to s cs (i + 1))) =
          rw more (runs-put old at (gone_to s cs i) (ended_since o o') w.walked.count fits w.bytes put) in
          record {
            walked = next;
            long = ap length is ∙ length-splice old at _ (omega (arith, room, length_runs (gone_to s cs (i + 1)), gone-within s cs (i + 1)));
            bytes = is;
          }

    module _ (h : length cs ≤ i) (k : ℕ) (relative : Bool) (a : Float) (e : o' ≡ opened o k false relative a) where
      pub room-last : at + run_size * o'.ended ≤ length out
      room-last = omega (arith, room, w.long, count-end s cs i o w.walked o' h k relative a e)

      pub written-end : {out' : List ℕ} → out' ≡ splice out (at + run_size * o.ended) (flat_map run_bytes (ended_since o o')) → out' ≡ splice old at (flat_map run_bytes runs)
      written-end put =
          let all = walked_end s cs i o w.walked o' h k relative a e in
          let fits : at + run_size * length (gone_to s cs i ++ ended_since o o') ≤ length old = rw (← all) room in
          rw all (runs-put old at (gone_to s cs i) (ended_since o o') w.walked.count fits w.bytes put)
