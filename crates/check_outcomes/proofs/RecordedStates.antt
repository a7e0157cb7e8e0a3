-- An order goes through the states of a closed list with what is recorded, up to one where no chain
-- has an access left.
use Rattle.check_outcomes.proofs.{◌≡◌, ℕ, ◌≤◌, List, [], ◌∷◌, ◌++◌, refl, ap, append_assoc, FileEntry, append-nil, ◌==◌, length, Asked, Completed}
use Rattle.check_outcomes.proofs.{Table, table_after, files_removed_in, Closed, accesses_of, IsPermutation, Contains, true, IsPermutation-trans}
use Rattle.check_outcomes.proofs.{IsPermutation-sym, ChainAccess, Access, rules_of, IsOver, has_none, Parts, AreRecordedClosed, LeadsOn}
use Rattle.check_outcomes.proofs.{RecordedState, IsPermutation-append_left, ◌+◌, sym, ◌∙◌, arith, runs_of, recursion_from_All, HasMemory}
use Rattle.check_outcomes.proofs.{EachReportIsListed}
use Rattle.check_outcomes.proofs.Playing.{OfChain, as_reader, steps_on, recorded_whole}
use Rattle.check_outcomes.proofs.InTurn.{IsInTurn, OrderGoesOn, first_within, its_first, past_first, has_turn}
use Rattle.check_outcomes.proofs.First.{find, recorded_same}
use Rattle.check_outcomes.proofs.TurnByTurn.{order_in_turn}

module _ (catalogue : List FileEntry) (size chains : ℕ) (finals : ℕ → List Completed) (files : List Closed) where
  -- how each chain goes on from a state
  abbrev Each : RecordedState → ℕ → List Access → Type 0
  Each here chain accesses = OfChain catalogue size (here.state.rests chain) (here.recorded chain) (finals chain) accesses

  -- an order goes on from a state
  pub record Comes (here : RecordedState) (order : List ChainAccess) : Type 0 where
    pub goes : OrderGoesOn chains here.state.table (Each here) order
    pub closed : IsPermutation (here.removed ++ files_removed_in (accesses_of order)) files

  -- after its first access, which its chain may make next
  past : {here next : RecordedState} {x : ChainAccess} {order : List ChainAccess} → Comes here (x ∷ order)
      → LeadsOn (rules_of catalogue size) here x.chain x.access next → Comes next order
  past {next = next} {x} {order} comes to = record {
    goes = past_first chains comes.goes (Each next) to.leads.table
        (rw (to.leads.own, to.own) (steps_on catalogue size _ _ _ x.access _ (its_first chains comes.goes)).1)
        (λ chain low apart still. rw (to.leads.others chain low apart, to.others chain low apart) still);
    closed = IsPermutation-trans _ _ _ (IsPermutation-sym _ _ (IsPermutation-append_left (files_removed_in (accesses_of order)) _ next.removed to.removed))
        (rw append_assoc comes.closed);
  }

  -- where the order is over
  pub record Ended (table : Table) (here : RecordedState) : Type 0 where
    pub over : IsOver has_none chains here.state
    pub recorded : (chain : ℕ) → 1 ≤ chain → chain ≤ chains → finals chain ≡ here.recorded chain
    pub closed : IsPermutation here.removed files
    pub table_is : here.state.table ≡ table

  -- a chain without an access that is left is over
  over_at : (here : RecordedState) (chain : ℕ) {accesses : List Access} → Each here chain accesses → accesses ≡ []
      → has_none (here.state.rests chain) ≡ true
  over_at here chain of none = ap (λ (l : List Asked). length l == 0) (recorded_whole catalogue size _ _ _ (rw none at of)).0

  pub runs_on : (states : List RecordedState) (parts : Parts) → AreRecordedClosed catalogue size parts chains states → (order : List ChainAccess)
      → IsInTurn parts.of_chain order → {here : RecordedState} → Contains states here → Comes here order
      → (end : RecordedState) × Contains states end × Ended (table_after here.state.table (accesses_of order)) end
  runs_on states parts closed [] by {here} there comes = (
    here,
    there,
    record {
      over = λ chain low high. over_at here chain (comes.goes.each chain low high) refl;
      recorded = λ chain low high. (recorded_whole catalogue size _ _ _ (comes.goes.each chain low high)).1;
      closed = rw append-nil at comes.closed;
      table_is = refl;
    },
  )
  runs_on states parts closed (x ∷ order) by {here} there comes =
      let (low, high) = first_within chains comes.goes in
      let next = (steps_on catalogue size _ _ _ x.access _ (its_first chains comes.goes)).0 in
      let turn = has_turn has_none parts here.state x order comes.goes.within (λ chain from to. over_at here chain (comes.goes.each chain from to))
      (λ chain from to are. as_reader catalogue size are (comes.goes.each chain from to)) by in
      let (on, inside, leads) = closed here there x.chain low high turn x.access next comes.goes.permitted.0 in
      rw (← leads.leads.table, table_after) (runs_on states parts closed order by.1 inside (past comes leads))

-- An order of a submission begins at the first of its states, and ends at one that lists its
-- report.

pub each_report_is_listed : EachReportIsListed
each_report_is_listed old requests states all report left memory any =
    let runs = runs_of requests in
    let one = order_in_turn all.parts old requests report left all.apart any in
    let f = find old.catalogue old.size report.submission one.order all.first.state.rests (λ q recorded. all.first.recorded q ≡ recorded) 1 runs report.completions (recursion_from_All HasMemory report.completions memory) one.is.done (rw one.is.submission all.begins.chains) in
    let comes : Comes old.catalogue old.size (length runs) f.finals report.closes.files all.first one.order = record {
      goes = record {
        permitted = rw all.begins.table one.is.permitted;
        within = one.is.chains;
        each = λ q low high. let (recorded, begins, goes) = f.each q low (omega arith) in rw begins goes;
      };
      closed = rw all.begins.removed one.is.closed.same_files;
    } in
    let (end, inside, run) = runs_on old.catalogue old.size (length runs) f.finals report.closes.files states all.parts all.closed one.order one.by
    all.inside comes in
    record {
      here = end;
      inside = inside;
      over = run.over;
      completions = f.whole ∙ recorded_same f.finals end.recorded 1 runs (λ q low high. run.recorded q low (omega arith));
      closes = run.closed;
      leaves = one.after ∙ (λ i. record old {
        at = ((sym (run.table_is ∙ ap (λ (t : Table). table_after t (accesses_of one.order)) all.begins.table)) i).at;
        submissions = old.submissions + 1;
      });
    }
