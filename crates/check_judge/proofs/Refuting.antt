-- Reports that no order leads to.
use Rattle.check_judge.proofs.{◌≡◌, inl, inr, ℕ, zero, suc, ◌+◌, ◌≤◌, List, [], ◌∷◌, length, sym, ◌∙◌, arith, All-contains, Contains, Option, Some}
use Rattle.check_judge.proofs.{None, slice_index_or, Vec, AllZip, Closed, by_equality, Table, Permits, PermitsAll, table_with, accesses_of}
use Rattle.check_judge.proofs.{accesses_of_chain, contains_head, contains_tail, Access, ChainAccess, Fits, found_by, left_by, HasNoOrder, Claim}
use Rattle.check_judge.proofs.{table_of_slots, slice_get_cases, Brings, contains_none, Slots, ap, AllByRecursion, all_completed, Asked, RingState}
use Rattle.check_judge.proofs.{IsRing, files_removed_in, IsOneOrder, table_of, AreDone, AreClaims, IsAllocationInRange, IfRefuted, same_size, ◌-◌}
use Rattle.check_judge.proofs.{Removes, emptied, removes_contained, IsBrought, IsKnown, IsPermutation-sym, Contains-permutation, runs_of}
use Rattle.check_judge.proofs.{IsRecordedOutcome, recorded_report, Recorded, no_file_that_stays_is_closed, at_after, found_at, some_or_none}
use Rattle.check_judge.proofs.{untouched, same_range}
use Rattle.check_judge.specs.declared.part.PartVerdict.{PartVerdict}
use Rattle.check_judge.specs.declared.part.PartVerdict.TheVariants.{Refuted}
use Rattle.check_judge.proofs.StrandClaims.{of_its_chain}

module _ (closes : List Closed) (file : Closed) where
  -- an access that leaves the file found it
  abbrev FindsIt : Access → Type 0
  FindsIt a = left_by a ≡ Some file → found_by a ≡ Some file

  finds : (a : Access) (claim : Claim) → Fits closes claim a → (Brings claim file → ⊥) → FindsIt a
  finds a claim holds none = grind arith

  -- each access of a chain fits one of its claims
  fitting : (claims : List Claim) (accesses : List Access) {a : Access} → AllZip (Fits closes) claims accesses → Contains accesses a
      → (claim : Claim) × Contains claims claim × Fits closes claim a
  fitting (c ∷ claims) (x ∷ accesses) all (zero, lt, is) = (c, contains_head c claims, rw (sym is) all.0)
  fitting (c ∷ claims) (x ∷ accesses) {a} all (suc k, lt, is) = grind (arith, fitting claims accesses all.1 (k, omega arith, is), contains_tail)
  fitting claims [] {a} all has = absurd (contains_none a has)
  fitting [] accesses all has = absurd all

  -- no slot has the file
  abbrev IsNowhere : Table → Type 0
  IsNowhere table = (slot : ℕ) → table.at slot ≡ Some file → ⊥

  nowhere_after : (table : Table) (a : Access) → Permits table a → FindsIt a → IsNowhere table → IsNowhere (table_with table a)
  nowhere_after table a may found none = grind (arith, some_or_none, by_equality, found_at, at_after, untouched)

  never_removed : (order : List ChainAccess) (table : Table) → PermitsAll table (accesses_of order) → IsNowhere table
      → ((x : ChainAccess) → Contains order x → FindsIt x.access) → Removes (accesses_of order) file → ⊥
  never_removed [] table may none found gone = gone
  never_removed (x ∷ order) table may none found (inl now) = let e = emptied table x.access file may.0 now in none e.slot e.was
  never_removed (x ∷ order) table may none found (inr later) =
      never_removed order (table_with table x.access) may.1 (nowhere_after table x.access may.0 (found x (contains_head x order)) none)
      (λ y inside. found y (contains_tail x order y inside)) later

  pub unknown : {table : Table} (chains : List (Vec Claim)) → Contains closes file → IsNowhere table → (IsBrought chains file → ⊥) → HasNoOrder table closes chains
  unknown {table} chains has none not_brought order played recorded =
      never_removed order table played.permitted none
      (λ x inside.
      let (one, few) = All-contains (λ y. (1 ≤ y.chain) × (y.chain ≤ length chains)) order x played.within inside in
      let k = x.chain - 1 in
      let place : k + 1 ≡ x.chain = omega arith in
      elim (slice_get_cases chains k).1 [
        | inl own ↦
            let fit = fitting own.0.items (accesses_of_chain x.chain order) (rw place at (recorded k own.0 own.2)) (of_its_chain order inside) in
            finds x.access fit.0 fit.2 (λ brings. not_brought (k, own.0, own.1, own.3, (fit.1.0, fit.0, fit.1.1, fit.1.2, brings)))
        | inr past ↦ let beyond = past.0 in absurd (omega arith)
      ])
      (removes_contained (accesses_of order) file (played.all file has))

-- an element that is read at a slot is one of the list
at_slot : (slots : List (Option Closed)) {file : Closed} (k : ℕ) → slice_index_or slots k None ≡ Some file → Contains slots (Some file)
at_slot [] k is = absurd (cc)
at_slot (x ∷ slots) zero is = rw (sym is) (contains_head x slots)
at_slot (x ∷ slots) {file} (suc k) is = contains_tail x slots (Some file) (at_slot slots k is)

pub never_known : {closes : List Closed} {file : Closed} (slots : Slots) (chains : List (Vec Claim)) → Contains closes file
    → (IsKnown slots.at.items chains file → ⊥) → HasNoOrder (table_of_slots slots) closes chains
never_known {closes} {file} slots chains has not =
    unknown closes file chains has (λ slot is. not (inl (at_slot slots.at.items slot is))) (λ brought. not (inr brought))

-- If there is no order of a table's accesses, no order leads to the report.

-- an access that a table permits is possible there
pub possible_all : (table : Table) (size : ℕ) (range : ℕ × ℕ) (accesses : List Access) → table.size ≡ size → table.range ≡ range → PermitsAll table accesses
    → AllByRecursion (IsAllocationInRange size range) accesses
possible_all table size range [] is are may = tt
possible_all table size range (a ∷ accesses) is are may =
    grind (arith, same_size, same_range, possible_all (table_with table a) size range accesses (same_size table a ∙ is) (same_range table a ∙ are) may.1)

module _ (old : RingState) (requests : List Asked) (recorded : Recorded) where
  abbrev pub IsDone : List ChainAccess → Type 0
  IsDone = AreDone old.catalogue old.size old.range (old.submissions + 1) 1 (runs_of requests) (all_completed recorded.completions.items)

  pub done_so : (room : ℕ) (left : RingState) → (one : IsOneOrder old requests (recorded_report old recorded room) left) → IsDone one.order
  done_so room left one = grind (arith, possible_all)

  pub outcome_recorded : IsRing old → (chains : List (Vec Claim)) → length chains ≡ length (runs_of requests)
      → ((order : List ChainAccess) → IsDone order → AreClaims recorded.closes.items chains order)
      → (o : PartVerdict) → IfRefuted (HasNoOrder (table_of old) recorded.closes.items chains) o → IsRecordedOutcome old requests recorded o
  outcome_recorded ring chains many claims (Refuted reason) none = λ room left one.
      let closed = recorded.closes.items in
      let removed = files_removed_in (accesses_of one.order) in
      none one.order
      (record {
        permitted = one.is.permitted;
        within = rw many one.is.chains;
        removed = λ file has. Contains-permutation removed closed file one.is.closed.same_files has;
        all = λ file has. Contains-permutation closed removed file (IsPermutation-sym removed closed one.is.closed.same_files) has;
        stay = λ slot file at. no_file_that_stays_is_closed old requests (recorded_report old recorded room) left ring one slot file
            (ap (λ (r : RingState). r.at slot) one.after ∙ at);
      })
      (claims one.order (done_so room left one))
  outcome_recorded ring chains many claims o is = tt
