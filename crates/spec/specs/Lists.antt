-- Functions on lists that the library has not, or not so that they compute. Definitions only.
use Rattle.std.specs.Prelude.{ℕ, zero, suc, Bool, true, false, cond, ◌||◌, ◌&&◌, List, [], ◌∷◌, eqb}

unfoldable pub all : {A : Type 0} → (A → Bool) → List A → Bool
all p [] = true
all p (x ∷ xs) = p x && all p xs

-- P of each element
pub data All {A : Type 0} (P : A → Type 0) : List A → Type 0 where
  none : All P []
  more : {x : A} {xs : List A} → P x → All P xs → All P (x ∷ xs)

unfoldable pub any : {A : Type 0} → (A → Bool) → List A → Bool
any p [] = false
any p (x ∷ xs) = p x || any p xs

-- all the conditions hold
unfoldable pub every : List Bool → Bool
every [] = true
every (b ∷ bs) = b && every bs

-- n is among the numbers
abbrev pub elem : ℕ → List ℕ → Bool
elem n xs = any (λ (k : ℕ). eqb k n) xs

unfoldable pub is_empty : {A : Type 0} → List A → Bool
is_empty [] = true
is_empty (x ∷ xs) = false

-- the place of the first element that p holds of; the list's length where there is none
unfoldable pub find_idx : {A : Type 0} → (A → Bool) → List A → ℕ
find_idx p [] = 0
find_idx p (x ∷ xs) = let rest = find_idx p xs in cond (p x) 0 (suc rest)

-- what f gives of the element at place i; b past the end
unfoldable pub get_map_or : {A B : Type 0} → B → (A → B) → List A → ℕ → B
get_map_or b f [] i = b
get_map_or b f (x ∷ xs) zero = f x
get_map_or b f (x ∷ xs) (suc i) = get_map_or b f xs i

-- f at place i
unfoldable pub modify : {A : Type 0} → (A → A) → List A → ℕ → List A
modify f [] i = []
modify f (x ∷ xs) zero = f x ∷ xs
modify f (x ∷ xs) (suc i) = x ∷ modify f xs i

-- each element set anew by f from the state before it; `next` gives the state after it
unfoldable pub scan : {A S : Type 0} → (S → A → S) → (S → A → A) → S → List A → List A
scan next f s [] = []
scan next f s (x ∷ xs) = f s x ∷ scan next f (next s x) xs
