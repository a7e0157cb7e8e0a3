use Rattle.fx_ring.proofs.Words.{◌+◌, ◌*◌, rules, IsPermutation-map, IsNonDecreasingBy-from_sort_by_key, completed_of, ℕ, List, [], ◌∷◌, map, arith}
use Rattle.fx_ring.proofs.Words.{ap, IsNonDecreasingBy, get_or-map, length-map}
use Rattle.fx_ring.proofs.outcome.Outcome.sort.Goals as goal

IsNonDecreasingBy-map : {X Y : Type 0} (f : X → Y) (n : Y → ℕ) (xs : List X) → IsNonDecreasingBy (λ x. n (f x)) xs
    → IsNonDecreasingBy n (map f xs)
IsNonDecreasingBy-map f n [] rises i j d low inside = absurd (omega arith)
IsNonDecreasingBy-map f n (x ∷ xs) rises i j d low inside =
    let len = length-map (x ∷ xs) f in
    let first = ap n (get_or-map f (x ∷ xs) i x d (omega arith)) in
    let behind = ap n (get_or-map f (x ∷ xs) j x d (omega arith)) in
    omega (arith, first, behind, rises i j x low (omega arith))

pub returns-clause-completions : goal.returns-clause-completions
returns-clause-completions c = IsPermutation-map completed_of _ _ c.sort_unstable_by_key.ensures.permutation

pub returns-clause-in_order : goal.returns-clause-in_order
returns-clause-in_order c =
    IsNonDecreasingBy-map completed_of (λ x. x.place.chain * 32 + x.place.member) c.sort_unstable_by_key.new.self.items
    (IsNonDecreasingBy-from_sort_by_key (λ x. x.place.chain * 32 + x.place.member) _ c.sort_unstable_by_key.ensures.sorted (λ a r q k. search rules))
