-- Statements of each element of a list.
use Rattle.check_outcomes.proofs.Words.{◌≡◌, ℕ, ◌<◌, List, [], ◌∷◌, length, map, sym, ap, ◌∙◌, arith, slice_index_or, Contains, get_or-map}
use Rattle.check_outcomes.proofs.Words.{length-map, suc, ◌+◌, Asked, get_or_from_slice_get, IfOk, Result, slice_get-get_or, Ok, Err}

-- an element of a list, by its place, and what is made of it
pub inside_at : {X Y : Type 0} (f : X → Y) (xs : List X) {k : ℕ} {x : X} {y : Y} → k < length xs → x ≡ slice_index_or xs k x → f x ≡ y
    → Contains (map f xs) y
inside_at f xs {k} {x} {y} within is same = (k, omega (arith, length-map xs f), get_or-map f xs k x y within ∙ (ap f (sym is) ∙ same))

-- what holds of each element up to a place and of the one there
pub one_more_at : {X : Type 0} (P : X → Type 0) (xs : List X) {n : ℕ} (e : X) → ((k : ℕ) (d : X) → k < n → P (slice_index_or xs k d)) → n < length xs
    → P (slice_index_or xs n e) → (k : ℕ) (d : X) → k < n + 1 → P (slice_index_or xs k d)
one_more_at P xs e all within last k d few = grind (arith, get_or_from_slice_get, slice_get-get_or)

pub one_more_of : {X : Type 0} (P : X → Type 0) (xs : List X) {n : ℕ} {x : X} → ((k : ℕ) (d : X) → k < n → P (slice_index_or xs k d)) → n < length xs
    → x ≡ slice_index_or xs n x → P x → (k : ℕ) (d : X) → k < n + 1 → P (slice_index_or xs k d)
one_more_of P xs {x} all within is last = one_more_at P xs x all within (rw is at last)

-- two things that hold of what was found, where it was
pub ok_two : {X E : Type 0} (r : Result X E) (P Q R : X → Type 0) → ((x : X) → P x → Q x → R x) → IfOk r P → IfOk r Q → IfOk r R
ok_two (Ok x) P Q R f p q = f x p q
ok_two (Err e) P Q R f p q = tt

-- what is said of runs by recursion holds, if it holds of each run, by the number of its chain
pub each_run : (P : ℕ → List Asked → Type 0) (R : ℕ → List (List Asked) → Type 0) → ((chain : ℕ) → R chain [])
    → ((chain : ℕ) (run : List Asked) (runs : List (List Asked)) → P chain run → R (chain + 1) runs → R chain (run ∷ runs))
    → (chain : ℕ) (runs : List (List Asked)) → ((k : ℕ) → k < length runs → P (k + chain) (slice_index_or runs k [])) → R chain runs
each_run P R none more chain [] each = none chain
each_run P R none more chain (run ∷ runs) each =
    let first : 0 + chain ≡ chain = omega arith in
    more chain run runs (rw first at (each 0 (omega arith))) (each_run P R none more (chain + 1) runs (λ k few.
    let on : k + (chain + 1) ≡ suc k + chain = omega arith in
    rw on (each (suc k) (omega arith))))
