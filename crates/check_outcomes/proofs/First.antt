-- The first states of a submission, where each order begins.
use Rattle.check_outcomes.proofs.{◌≡◌, ℕ, ◌+◌, ◌<◌, ◌≤◌, ◌==◌, List, [], ◌∷◌, ◌++◌, length, refl, sym, ap, ◌∙◌, arith, if◌then◌else◌, Bool, ⊎_elim}
use Rattle.check_outcomes.proofs.{inr, FileEntry, Completed, Asked, runs_of, first_member, Table, accesses_of, accesses_of_chain, AreChainsDone}
use Rattle.check_outcomes.proofs.{IsOneOrder, table_after, AllByRecursion, RingState, Reported, eq-eqb, ChainAccess, cases_eq, ne_eqb, at_itself}
use Rattle.check_outcomes.proofs.{HasMemory, Rest, rules_of, settled_at, AreAllStates, AreAtStart, HasEnd, IsListed, StateView, EachOutcomeIsListed}
use Rattle.check_outcomes.proofs.{recorded_from, both_parts, are_right, settles}
use Rattle.check_outcomes.proofs.TurnByTurn.{order_in_turn}
use Rattle.check_outcomes.proofs.Playing.{OfChain, Comes, both_said, runs_on}

-- the same of each chain, the same whole
pub recorded_same : (f g : ℕ → List Completed) (chain : ℕ) (runs : List (List Asked)) → ((q : ℕ) → chain ≤ q → q < chain + length runs → f q ≡ g q)
    → recorded_from f chain runs ≡ recorded_from g chain runs
recorded_same f g chain [] same = refl
recorded_same f g chain (run ∷ runs) same =
    λ i. same chain (omega arith) (omega arith) i ++ recorded_same f g (chain + 1) runs (λ q low high. same q (omega arith) (omega arith)) i

all_recorded : (P : Completed → Type 0) (recorded : ℕ → List Completed) (chain : ℕ) (runs : List (List Asked))
    → ((q : ℕ) → chain ≤ q → q < chain + length runs → AllByRecursion P (recorded q)) → AllByRecursion P (recorded_from recorded chain runs)
all_recorded P recorded chain [] each = tt
all_recorded P recorded chain (run ∷ runs) each = both_said P (recorded chain) (recorded_from recorded (chain + 1) runs) (each chain (omega arith) (omega arith))
    (all_recorded P recorded (chain + 1) runs (λ q low high. each q (omega arith) (omega arith)))

-- each chain is at its first request that reaches the table, and `Begins` has its answers up to
-- there
module _ (catalogue : List FileEntry) (size submission : ℕ) (order : List ChainAccess) (rests : ℕ → Rest) (Begins : ℕ → List Completed → Type 0) where
  abbrev settled : ℕ → List Asked → List Completed × Rest
  settled chain run = settled_at (rules_of catalogue size) (first_member submission chain) run

  -- how a chain goes on to this
  abbrev Own : ℕ → List Completed → Type 0
  Own q final = (recorded : List Completed) × Begins q recorded × OfChain catalogue size (rests q) recorded final (accesses_of_chain q order)

  -- the list of a chain before those of the others
  abbrev put : ℕ → List Completed → (ℕ → List Completed) → ℕ → List Completed
  put chain own others q = if q == chain then own else others q

  pub record Found (chain : ℕ) (runs : List (List Asked)) (completions : List Completed) : Type 0 where
    pub finals : ℕ → List Completed
    pub whole : completions ≡ recorded_from finals chain runs
    pub each : (q : ℕ) → chain ≤ q → q < chain + length runs → Own q (finals q)

  pub find : (chain : ℕ) (runs : List (List Asked)) (completions : List Completed) → AllByRecursion HasMemory completions
      → AreChainsDone catalogue size submission chain runs order completions → AreAtStart (rules_of catalogue size) Begins submission chain runs rests
      → Found chain runs completions
  find chain [] completions memory done start =
      record { finals = λ q. []; whole = done; each = λ q low high. absurd (omega arith) }
  find chain (run ∷ runs) completions memory (own, others, whole, made, done) (begins, rest_is, start) =
      let mem = both_parts HasMemory own others (rw whole at memory) in
      let f = find (chain + 1) runs others mem.1 done start in
      let goes = settles catalogue size (rules_of catalogue size) (are_right catalogue size) (first_member submission chain) run mem.0 made in
      let all = put chain own f.finals in
      let same = recorded_same f.finals all (chain + 1) runs (λ q low high. rw (ne_eqb q chain (λ at. omega arith))) in
      record {
        finals = all;
        whole = rw (at_itself chain own (f.finals chain), ← same, ← f.whole) whole;
        each = λ q low high. ⊎_elim
            (λ at. rw (eq-eqb q chain at, at, rest_is) ((settled chain run).0, begins, goes))
            (λ other. rw (ne_eqb q chain other) (f.each q (omega arith) (omega arith)))
            (cases_eq q chain);
      }

-- whatever is to be said of the answers
pub all_said : (idle : Rest → Bool) (says : Completed → Type 0) (old : RingState) (requests : List Asked) (states : List StateView)
    → AreAllStates idle says old requests states → (report : Reported) (left : RingState) → AllByRecursion HasMemory report.completions
    → IsOneOrder old requests report left → AllByRecursion says report.completions × HasEnd old requests idle states left
all_said idle says old requests states all report left memory any =
    let runs = runs_of requests in
    let one = order_in_turn all.parts old requests report left all.apart any in
    let f = find old.catalogue old.size report.submission one.order all.first.rests (λ _ recorded. AllByRecursion says recorded) 1 runs report.completions memory one.is.done (rw one.is.submission all.begins.chains) in
    let comes : Comes old.catalogue old.size says idle all.idling (length runs) f.finals all.first one.order = record {
      permitted = rw all.begins.table one.is.permitted;
      within = one.is.chains;
      each = λ q low high. inr (f.each q low (omega arith));
    } in
    let (end, inside, run) = runs_on old.catalogue old.size says idle all.idling (length runs) f.finals all.parts all.closed one.order one.by
    all.inside comes in (
      rw f.whole (all_recorded says f.finals 1 runs (λ q low high. run.said q low (omega arith))),
      record {
        state = end;
        inside = inside;
        over = run.over;
        leaves = one.after ∙ (λ i. record old {
          at = ((sym (run.table_is ∙ ap (λ (t : Table). table_after t (accesses_of one.order)) all.begins.table)) i).at;
          submissions = old.submissions + 1;
        });
      },
    )

pub each_outcome_is_listed : EachOutcomeIsListed
each_outcome_is_listed place answers idle = all_said idle (IsListed place answers)
