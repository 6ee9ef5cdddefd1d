-- A number's bytes as the library gives them are those of the definition. Assumes nothing.
use Prim.Native.Nat.{ℕ}
use mathlib.Core.Path.{◌≡◌}
use mathlib.Core.List.{List, [], ◌∷◌}
use native.Mathlib.Omega.{arith}
use Rattle.std.specs.Int.{to_be_bytes, w16, w32}
use Rattle.spec.specs.Bytes.{bytes}

two : {a b c d : ℕ} → a ≡ c → b ≡ d → ◌≡◌ {A = List ℕ} (a ∷ b ∷ []) (c ∷ d ∷ [])
two e f = rw (e, f)

pub two-bytes : (n : ℕ) → to_be_bytes w16 n ≡ bytes 2 n
unfolding bytes
two-bytes n = two (omega arith) (omega arith)

four : {a b c d e f g h : ℕ} → a ≡ e → b ≡ f → c ≡ g → d ≡ h → ◌≡◌ {A = List ℕ} (a ∷ b ∷ c ∷ d ∷ []) (e ∷ f ∷ g ∷ h ∷ [])
four p q r s = rw (p, q, r, s)

pub four-bytes : (n : ℕ) → to_be_bytes w32 n ≡ bytes 4 n
unfolding bytes
four-bytes n = four (omega arith) (omega arith) (omega arith) (omega arith)
