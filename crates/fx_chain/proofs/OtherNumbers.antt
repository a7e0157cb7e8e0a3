-- The steps of a chain with other numbers, and the count of numbers that they use.
use Rattle.fx_chain.proofs.Words.{◌≡◌, ℕ, ◌+◌, ◌≤◌, ℤ, List, [], ◌∷◌, ◌++◌, length, map, ap, ◌∙◌, Option, Some, inl, inr, arith, map-append, Action}
use Rattle.fx_chain.proofs.Words.{sum_by-cons, FileEntry, ◌▷▷◌, MayClose, AppliesEntry, AppliesList, Answers, Completed, next_member, Explains, Opens}
use Rattle.fx_chain.proofs.Words.{severs, canceled, Operation, Reads, Closes, Updates, Asked, entry_installs, list_installs, installs_of, Place, File}
use Rattle.fx_chain.proofs.Words.{all_installs, Target, AnswersAtTable, OpensAt, ReadsAt, TakesAt}
use Rattle.fx_plain.specs.Laws.{installed_by}
use Rattle.fx_plain.specs.Reopening.{Renaming, renamed, renamed_file, renamed_found, numbers_given, with_number_of}
use Rattle.fx_chain.proofs.Cases.{either_case, same_cases}
use Rattle.fx_chain.proofs.EntryKinds.{list_installs-cons}

module _ (r : Renaming) where
  abbrev other : List Action → List Action
  other events = map (renamed r) events

  refuses : {events : List Action} {Q : Type 0} → (events ≡ []) × Q → (other events ≡ []) × Q
  refuses is = (ap other is.0, is.1)

  may_close : (steps : List Action) (removed : Option File) (events : List Action) → MayClose steps removed events
      → MayClose (other steps) (renamed_found r removed) (other events)
  may_close steps removed events h4 = grind arith

  opens : (place : Place) (entry : ℕ) (target : Target) (events : List Action) (c : Completed) → OpensAt place entry target events c
      → OpensAt place entry target (other events) c
  opens place entry target events c h6 = grind (arith, may_close)

  reads : (catalogue : List FileEntry) (place : Place) (slot off len : ℕ) (events : List Action) (c : Completed)
      → ReadsAt catalogue place slot off len events c → ReadsAt catalogue place slot off len (other events) c
  reads catalogue place slot off len events c (inl refused) = inl (refused.0, refuses refused.1)
  reads catalogue place slot off len events c (inr (inl none)) = inr (inl (ap other none.0, none.1))
  reads catalogue place slot off len events c (inr (inr (f, closes, is))) = inr (inr (renamed_file r f, may_close _ (Some f) events closes, is))

  takes : (place : Place) (slot : ℕ) (events : List Action) (c : Completed) → TakesAt place slot events c → TakesAt place slot (other events) c
  takes place slot events c (inl none) = inl (ap other none.0, none.1)
  takes place slot events c (inr there) = inr (renamed_file r there.0, may_close _ (Some there.0) events there.1, there.2)

  entry : (place : Place) (in_list slot : ℕ) (number : ℤ) (events : List Action) → AppliesEntry place in_list slot number events
      → AppliesEntry place in_list slot number (other events)
  entry place in_list slot number events is = grind (arith, may_close)

  both : {events : List Action} (own others : List Action) → events ≡ own ▷▷ others → other events ≡ other own ▷▷ other others
  both own others is = ap other is ∙ map-append (renamed r) others own

  entries : (place : Place) (in_list slot : ℕ) (list : List ℤ) (events : List Action) → AppliesList place in_list slot list events
      → AppliesList place in_list slot list (other events)
  entries place in_list slot [] events is = ap other is
  entries place in_list slot (number ∷ list) events (own, others, is, first, rest) =
      let more = entries place (in_list + 1) (slot + 1) list others rest in
      (other own, other others, both own others is, entry place in_list slot number own first, more)

  at_table : (catalogue : List FileEntry) (place : Place) (operation : Operation) (events : List Action) (c : Completed)
      → AnswersAtTable catalogue place operation events c → AnswersAtTable catalogue place operation (other events) c
  at_table catalogue place (Opens name target) events c is = (is.0, is.1, opens place is.0 target events c is.2)
  at_table catalogue place (Reads slot off len) events c is = reads catalogue place slot off len events c is
  at_table catalogue place (Closes slot) events c is = takes place slot events c is
  at_table catalogue place (Updates off list) events c is = (entries place 0 off list events is.0, is.1)

  answers : (catalogue : List FileEntry) (size : ℕ) (place : Place) (operation : Operation) (events : List Action) (c : Completed)
      → Answers catalogue size place operation events c → Answers catalogue size place operation (other events) c
  answers catalogue size place operation events c = grind (arith, at_table)

  pub explains : (catalogue : List FileEntry) (size : ℕ) (requests : List Asked) (place : Place) (events : List Action) (completions : List Completed)
      → Explains catalogue size place requests events completions → Explains catalogue size place requests (other events) completions
  explains catalogue size [] place events completions is = refuses is
  explains catalogue size (request ∷ requests) place events completions (own, others, c, cs, is, cs_is, first, goes) = (
    other own,
    other others,
    c,
    cs,
    both own others is,
    cs_is,
    answers catalogue size place request.operation own c first,
    same_cases (severs request c) refuses (explains catalogue size requests (next_member place) others cs) goes,
  )

-- the count of numbers that actions use
abbrev given : List Action → ℕ
given events = length (numbers_given events)

pub given_one : (a : Action) (l : List ℕ) → length (with_number_of (installed_by a) l) ≡ length (with_number_of (installed_by a) []) + length l
given_one a l = grind arith

given_both : (later earlier : List Action) → given (later ++ earlier) ≡ given earlier + given later
given_both [] earlier = omega arith
given_both (a ∷ later) earlier = grind (arith, given_one, given_both later earlier)

given_so_far : (steps : List Action) (removed : Option File) (events : List Action) → MayClose steps removed events → given events ≡ given steps
given_so_far steps removed events h4 = grind arith

few_refused : {events : List Action} {few : ℕ} {Q : Type 0} → (events ≡ []) × Q → given events ≤ few
few_refused is = rw is.0 (omega arith)

few_by_open : (place : Place) (entry : ℕ) (target : Target) (events : List Action) (c : Completed)
    → OpensAt place entry target events c → given events ≤ 1
few_by_open place entry target events c h6 = grind (arith, given_so_far)

few_by_read : (catalogue : List FileEntry) (place : Place) (slot off len : ℕ) (events : List Action) (c : Completed)
    → ReadsAt catalogue place slot off len events c → given events ≤ 0
few_by_read catalogue place slot off len events c h8 = grind (arith, few_refused, given_so_far)

few_by_close : (place : Place) (slot : ℕ) (events : List Action) (c : Completed) → TakesAt place slot events c → given events ≤ 0
few_by_close place slot events c h5 = grind (arith, given_so_far)

few_by_entry : (place : Place) (in_list slot : ℕ) (number : ℤ) (events : List Action) → AppliesEntry place in_list slot number events
    → given events ≤ entry_installs number
few_by_entry place in_list slot number events is = grind (arith, given_so_far)

few_by_list : (list : List ℤ) (place : Place) (in_list slot : ℕ) (events : List Action) → AppliesList place in_list slot list events
    → given events ≤ list_installs list
few_by_list [] place in_list slot events is = rw is (omega arith)
few_by_list (number ∷ list) place in_list slot events (own, others, is, first, rest) =
    grind (arith, few_by_entry, given_both, list_installs-cons, few_by_list list place (in_list + 1) (slot + 1) others rest)

few_at_table : (catalogue : List FileEntry) (place : Place) (operation : Operation) (events : List Action) (c : Completed)
    → AnswersAtTable catalogue place operation events c → given events ≤ installs_of operation
few_at_table catalogue place operation events c is = grind (arith, few_by_open, few_by_read, few_by_close, few_by_list)

few_by_request : (catalogue : List FileEntry) (size : ℕ) (place : Place) (operation : Operation) (events : List Action) (c : Completed)
    → Answers catalogue size place operation events c → given events ≤ installs_of operation
few_by_request catalogue size place operation events c = grind (arith, few_at_table)

pub few_given : (catalogue : List FileEntry) (size : ℕ) (requests : List Asked) (place : Place) (events : List Action) (completions : List Completed)
    → Explains catalogue size place requests events completions → given events ≤ all_installs requests
few_given catalogue size [] place events completions is = few_refused is
few_given catalogue size (request ∷ requests) place events completions (own, others, c, cs, is, cs_is, first, goes) =
    let one = few_by_request catalogue size place request.operation own c first in
    let more : given others ≤ all_installs requests = either_case (severs request c)
    (λ (severed : (others ≡ []) × (cs ≡ canceled (next_member place) requests)). few_refused severed)
    (few_given catalogue size requests (next_member place) others cs) goes in
    rw (is, given_both others own, sum_by-cons (λ (it : Asked). installs_of it.operation) request requests) (omega arith)
