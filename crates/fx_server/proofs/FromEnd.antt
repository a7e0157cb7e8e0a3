-- The places with the workers that were put there so far, the last one first.
use Rattle.fx_server.proofs.Words.{◌≡◌, ◌+◌, ◌<◌, List, Some, [], ◌∷◌, ◌++◌, ap, refl, sym, ◌∙◌, arith, length, map, take, drop, set, length-append}
use Rattle.fx_server.proofs.Words.{append_assoc, take-append-drop, take_at, drop_at, drop-set, map-set, length-map, Box, workers_in, workers_at}
use Rattle.fx_server.proofs.Words.{TableWorker}
use Rattle.fx_server.specs.declared.handle.WorkerPlace.{WorkerPlace}

-- the worker that is popped is the next one from the end
pub from_end : (all items less : List (Box TableWorker)) (b : Box TableWorker) → items ≡ take (length items) all → items ≡ less ++ b ∷ [] → all ≡ less ++ b ∷ drop (length items) all
from_end all items less b left popped =
    sym (take-append-drop (length items) all) ∙ ap (λ it. it ++ drop (length items) all) (sym left ∙ popped) ∙ append_assoc less (b ∷ []) (drop (length items) all)

pub left_one : (all items less : List (Box TableWorker)) (b : Box TableWorker) → items ≡ take (length items) all → items ≡ less ++ b ∷ [] → less ≡ take (length less) all
left_one all items less b left popped =
    sym (ap (take (length less)) (from_end all items less b left popped) ∙ take_at less (b ∷ drop (length items) all) (length less) refl)

pub placed_one : (places : List WorkerPlace) (p : WorkerPlace) (all items less : List (Box TableWorker)) (b : Box TableWorker)
    → items ≡ take (length items) all → items ≡ less ++ b ∷ [] → length places ≡ length all → p.worker ≡ Some b.value
    → drop (length items) (workers_at places) ≡ map Some (workers_in (drop (length items) all))
    → drop (length less) (workers_at (set places (length less) p)) ≡ map Some (workers_in (drop (length less) all))
placed_one places p all items less b left popped same_count same was =
    let whole = from_end all items less b left popped in
    let rest : List (Box TableWorker) = drop (length items) all in
    let more : length items ≡ length less + 1 = ap length popped ∙ length-append less (b ∷ []) in
    let low : length less < length (workers_at places) = omega (arith, length-map places (λ (it : WorkerPlace). it.worker), same_count, ap length whole ∙ length-append less (b ∷ rest)) in
    ap (drop (length less)) (map-set (λ (it : WorkerPlace). it.worker) places (length less) p)
    ∙ drop-set (workers_at places) (length less) p.worker low
    ∙ ap (λ n. p.worker ∷ drop n (workers_at places)) (sym more)
    ∙ ap (λ it. p.worker ∷ it) was
    ∙ ap (λ it. it ∷ map Some (workers_in rest)) same
    ∙ sym (ap (λ it. map Some (workers_in it)) (ap (drop (length less)) whole ∙ drop_at less (b ∷ rest) (length less) refl))
