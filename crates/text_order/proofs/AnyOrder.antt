-- A test of an entry passes somewhere in the text order as it does among the entries as they come. Assumes nothing.
use Prim.Native.Nat.{ℕ, suc, ◌<◌}
use mathlib.Core.Path.{◌≡◌, refl, sym, subst, ◌∙◌}
use mathlib.Core.Bool.{Bool, true, false, ◌||◌}
use mathlib.Core.List.{List, [], ◌∷◌}
use native.Mathlib.Omega.{arith}
use lib.ListN.{length, get_or}
use lib.Dec.{T}
use Rattle.spec.specs.Lists.{any}
use Rattle.spec.specs.Position.{Entry, entries, insert, logical_order}
use Rattle.sort.proofs.Cases.{in_order}
use Rattle.text_order.proofs.Entries.{entry_past, entry_here, inserted}

-- ---- either of several tests

or_swap : (a b c : Bool) → a || (b || c) ≡ b || (a || c)
or_swap true true c = refl
or_swap true false c = refl
or_swap false b c = refl

or-over : (a b c : Bool) → b || (a || c) ≡ a || b || c
or-over true true c = refl
or-over true false c = refl
or-over false b c = refl

or-false : (a : Bool) → a || false ≡ a
or-false true = refl
or-false false = refl

-- the place of an element that passes
pub any_at : {A : Type 0} (p : A → Bool) (d : A) (xs : List A) → any p xs ≡ true → (k : ℕ) × (k < length xs) × (p (get_or xs k d) ≡ true)
unfolding any
any_at p d [] e = absurd (subst T (sym e) tt)
any_at {A} p d (x ∷ xs) e = go (p x) refl (any_at p d xs)
  where
    go : (b : Bool) → p x ≡ b → (any p xs ≡ true → (k : ℕ) × (k < length xs) × (p (get_or xs k d) ≡ true)) → (k : ℕ) × (k < suc (length xs)) × (p (get_or (x ∷ xs) k d) ≡ true)
    go true h f = (0, omega arith, h)
    go false h f = let r = f (rw h at e) in (suc r.0, omega (arith, r.1), r.2)

-- ---- entries in any order

module _ (p : Entry → Bool) where
  any_entry : (e : Entry) (es : List Entry) → any p (insert e es) ≡ p e || any p es
  unfolding any insert
  any_entry e [] = refl
  any_entry e (f ∷ fs) =
      let more = any_entry e fs in
      in_order f.index e.index
      (λ h. rw (entry_past e f fs h, more) (or_swap (p f) (p e) (any p fs)))
      (λ h. rw (entry_here e f fs h))

  any-inserted : (done es : List Entry) → any p (inserted done es) ≡ any p es || any p done
  unfolding any
  any-inserted done [] = refl
  any-inserted done (e ∷ es) = any-inserted (insert e done) es ∙ rw (any_entry e done) (or-over (p e) (any p es) (any p done))

  pub any_order : (is : List ℕ) → any p (logical_order is) ≡ any p (entries 0 is)
  unfolding any logical_order
  any_order is = any-inserted [] (entries 0 is) ∙ or-false (any p (entries 0 is))
