-- The record of the way to the states of the program, and the numbers of a state's files.
use Rattle.std.specs.Prelude.{◌≡◌, ◌<◌, ◌∷◌, ◌++◌, ℕ, List, [], length, map, slice_index_or}
use Rattle.std.specs.Prelude.{slice_set, IsPermutation, Option, None, Some}
use Rattle.check_outcomes.specs.Words.{option_to_list, Vec, Closed, Completed, all_completed}
use Rattle.check_outcomes.specs.Words.{Completion, file_removed_by, Access}
use Rattle.fx_base.specs.declared.mark.Mark.{Mark}
use Rattle.fx_base.specs.declared.mark.Mark.TheVariants.{Registered, Submitted}
use Rattle.check_outcomes.specs.declared.way_report.WayReport.{WayReport}

-- what each chain answered
abbrev pub answers_of : List (Vec Completion) → List (List Completed)
answers_of answers = map (λ own. all_completed own.items) answers

-- all of it, one chain after another
abbrev pub all_recorded : List (List Completed) → List Completed
all_recorded [] = []
all_recorded (own ∷ others) = own ++ all_recorded others

-- what is recorded after an access of a chain, by the chain's number from 0, that answers this
pub record IsRecordedOn (before : WayReport) (i : ℕ) (a : Access) (own : List Completed)
    (after : WayReport) : Type 0 where
  pub there : i < length before.answers.items
  pub answers : answers_of after.answers.items ≡ slice_set (answers_of before.answers.items) i
      (slice_index_or (answers_of before.answers.items) i [] ++ own)
  pub removed : IsPermutation (before.removed.items ++ option_to_list (file_removed_by a))
      after.removed.items

-- the numbers of a file's mark, which no other mark has
abbrev pub mark_numbers : Mark → List ℕ
mark_numbers (Registered k i) = 1 ∷ k ∷ i ∷ []
mark_numbers (Submitted submission chain member entry) =
    2 ∷ submission ∷ chain ∷ member ∷ entry ∷ []

-- those of what is at a slot
abbrev pub file_numbers : Option Closed → List ℕ
file_numbers None = 0 ∷ []
file_numbers (Some file) = mark_numbers file.mark
