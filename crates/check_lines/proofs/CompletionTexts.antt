-- The number of completions of a submission.
use Rattle.check_lines.proofs.Words.{Asked, Event, FileEntry, explained_count, ExplainsParts, List, ℕ, ◌≡◌, ◌+◌, ap, length, [], arith, ◌∷◌}
use Rattle.check_lines.proofs.Words.{length-append, flat_map, ReportsHaveEachRequest, are_runs, Completed, IsBytes}

pub no_bytes : IsBytes []
no_bytes i = omega arith

parts_count : (catalogue : List FileEntry) (size submission chain : ℕ) (runs : List (List Asked)) (history : List Event) (completions : List Completed)
    → ExplainsParts catalogue size submission chain runs history completions → length completions ≡ length (flat_map (λ run. run) runs)
parts_count catalogue size submission chain [] history completions are = ap length are
parts_count catalogue size submission chain (run ∷ runs) history completions (own, others, whole, explained, more) =
    let here : length own ≡ length run = explained_count catalogue size _ run _ own explained in
    let there : length others ≡ length (flat_map (λ run. run) runs) = parts_count catalogue size submission (chain + 1) runs history others more in
    omega (arith, ap length whole, length-append own others, length-append run (flat_map (λ run. run) runs))

pub each_request : ReportsHaveEachRequest
each_request old asked report new one = grind (arith, parts_count, are_runs)
