use Rattle.fx_ring.proofs.Words.{rules, ◌≡◌, ℕ, suc, ◌<◌, List, [], ◌∷◌, map, length, slice_index_or, refl, arith}
use Rattle.fx_ring.proofs.worker.work_all.Goals as goal

-- two lists that are the same at each place by what is asked of their elements
map_same : {X Y : Type 0} (f : X → Y) (xs ys : List X) → length ys ≡ length xs
    → ((i : ℕ) (d : X) → i < length xs → f (slice_index_or ys i d) ≡ f (slice_index_or xs i d)) → map f ys ≡ map f xs
map_same f [] [] count same = refl
map_same f [] (y ∷ ys) count same = absurd (omega arith)
map_same f (x ∷ xs) [] count same = absurd (omega arith)
map_same f (x ∷ xs) (y ∷ ys) count same =
    let head : f y ≡ f x = same 0 x (omega arith) in
    let tail : map f ys ≡ map f xs = map_same f xs ys (omega arith) (λ i d l. same (suc i) d (omega arith)) in
    λ k. head k ∷ tail k

pub returns-clause-numbers : goal.returns-clause-numbers
returns-clause-numbers g c =
    map_same (λ w. (g.T.FileTable.view w.pass).number) c.args.workers.now c.for_each_mut.new.s (search rules) (λ i d l. search rules)
