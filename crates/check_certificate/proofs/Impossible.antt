-- Answers that a request can't have.
use Rattle.check_certificate.proofs.Words.{arith, ◌≡◌, ℕ, List, sym, ap, ◌∙◌, inl, inr, None, Option, Access, Place, Bool, Completed, FileEntry}
use Rattle.check_certificate.proofs.Words.{refusal, true, Decides, Asked, IsImpossible, fits_refusal, is_severed, Errno, ECANCELED, ENOMEM}
use Rattle.check_certificate.proofs.Words.{table_may_answer, is_error, answer_at_table, Operation, Decides-like, false≢true, nil_from_length}
use Rattle.check_certificate.proofs.Words.{IsDoneAtTable, IsRefused, Decides-and, Decides-ltb, MatchOption, not, ◌||◌}
use Rattle.check_certificate.specs.Answers.{is_impossible}
use Rattle.fx_chain.specs.declared.intent.Finding.{Finding}

pub error_Decides : (c : Completed) (errno : Errno) → Decides (is_error c errno) (c ≡ refusal c.place errno)
error_Decides c errno = grind (arith, Decides-like, nil_from_length, Decides-and)

pub or_left : (a b : Bool) → a ≡ true → (a || b) ≡ true
or_left a b is = grind arith

pub or_right : (a b : Bool) → b ≡ true → (a || b) ≡ true
or_right a b is = grind arith

module _ (catalogue : List FileEntry) (place : Place) where
  -- an answer at the table is one that the request may have
  table_fits : (operation : Operation) (found : Option Finding) → fits_refusal None operation (answer_at_table catalogue place operation found) ≡ true
  table_fits operation found = grind (arith, table_may_answer)

module _ (catalogue : List FileEntry) (c : Completed) (operation : Operation) (accesses : List Access) where
  done_fits : (refused : Option Errno)
      → MatchOption refused (IsDoneAtTable catalogue c.place operation accesses c) (λ errno. IsRefused c.place errno accesses c)
      → (is_severed c || fits_refusal refused operation c) ≡ true
  done_fits refused h2 = grind (arith, or_left, error_Decides, or_right, table_fits)

-- an answer that a request can't have by what it says of itself is impossible
pub impossible : (catalogue : List FileEntry) (size : ℕ) (c : Completed) (request : Asked) → is_impossible catalogue size c request ≡ true
    → IsImpossible catalogue size c request
unfolding is_impossible
impossible catalogue size c request true_is accesses (inl canceled) =
    let severed : is_severed c ≡ true = or_right (is_error c ENOMEM) _
    ((Decides-and _ _ (Decides-ltb 1 c.place.member) (error_Decides c ECANCELED)).1 (canceled.1, canceled.0)) in
    false≢true (sym (ap not (or_left _ _ severed)) ∙ true_is)
impossible catalogue size c request true_is accesses (inr done) =
    false≢true (sym (ap not (done_fits catalogue c request.operation accesses _ done)) ∙ true_is)
