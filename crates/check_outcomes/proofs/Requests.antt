-- The acts of each request at the table: how many accesses it makes, and its answer if no
-- allocation fails; what each access was to be; and the slots that it reaches.
use Rattle.check_outcomes.proofs.Words.{◌≡◌, ℕ, zero, suc, ◌+◌, ◌≤◌, ℤ, pos, negsuc, List, [], ◌∷◌, ◌++◌, length, refl, ap, Option, Some, None, arith}
use Rattle.check_outcomes.proofs.Words.{inl, inr, All, IsCatalogue, slice_get, All-nil, All-cons, FileEntry, Errno, MatchOption, Completed, Operation}
use Rattle.check_outcomes.proofs.Words.{Opens, Updates, Place, Any, Table, refusal_of, IsRefused, IsRequestDone, IsDoneAtTable, Access, HasMemory}
use Rattle.check_outcomes.proofs.Words.{Identity, rules_of, Intends, IsNextAccess, IsIntent, IsOpened, MayReach, answer_at_table, answer_of, count_of}
use Rattle.check_outcomes.proofs.Words.{count_or_none, intents_of, list_intents, positions_of, refusal_or, Allocate, same_opened, single, zip_at}
use Rattle.check_outcomes.proofs.Words.{AllZip, option_map}
use Rattle.check_outcomes.proofs.ChainAccesses.{AreRight, last_of}
use Rattle.check_outcomes.proofs.Commuting.{ComesTo}
use Rattle.fx_chain.proofs.Cases.{both_options}
use Rattle.fx_chain.specs.declared.intent.Intent.{Intent}
use Rattle.fx_order.proofs.Intents.{as_many}
use Rattle.fx_order.specs.Access.{IsOf, finding_of, last_finding}

-- this number of accesses, and this answer
abbrev Says : List Access → Completed → ℕ → Completed → Type 0
Says own c count answer = (length own ≡ count) × (c ≡ answer)

by_refusal : (own : List Access) {c : Completed} (place : Place) (o : Option Errno) {D : Type 0} {n : ℕ} {d : Completed} → (D → Says own c n d)
    → MatchOption o D (λ errno. IsRefused place errno own c) → Says own c (count_or_none o n) (refusal_or place o d)
by_refusal own place None so x = so x
by_refusal own place (Some errno) so x = (ap length x.0, x.1)

finding-last : (own : List Access) → last_finding own ≡ option_map finding_of (last_of own)
finding-last [] = refl
finding-last (a ∷ []) = refl
finding-last (a ∷ b ∷ own) = finding-last (b ∷ own)

module _ (catalogue : List FileEntry) (size : ℕ) (place : Place) (own : List Access) (c : Completed) (memory : HasMemory c) where
  at_table : (operation : Operation) → IsDoneAtTable catalogue place operation own c
      → Says own c (length (positions_of operation)) (answer_at_table catalogue place operation (option_map finding_of (last_of own)))
  at_table operation h2 = grind (arith, as_many, finding-last)

  says : (operation : Operation) → IsRequestDone catalogue size place operation own c
      → Says own c (count_of catalogue size operation) (answer_of catalogue size place operation (option_map finding_of (last_of own)))
  says operation = by_refusal own place (refusal_of catalogue size operation) (at_table operation)

-- each request is done so
pub are_right : (catalogue : List FileEntry) (size : ℕ) → AreRight catalogue size (rules_of catalogue size)
are_right catalogue size place request own c done memory = says catalogue size place own c memory request.operation done

never_empty : (front behind : List Access) (a : Access) → front ++ a ∷ behind ≡ [] → ⊥
never_empty [] behind a is = cc
never_empty (x ∷ front) behind a is = cc

one : (Q : Access → Type 0) (a : Access) → Q a → All Q (a ∷ [])
one Q a so = All-cons Q a [] so (All-nil Q)

module _ (catalogue : List FileEntry) (catalogued : IsCatalogue catalogue) (size : ℕ) (place : Place) (operation : Operation) (a : Access) where
  meant_here : (entry : ℕ) (front behind : List Access) (c : Completed) → IsOpened catalogue operation entry
      → IsDoneAtTable catalogue place operation (front ++ a ∷ behind) c
      → Intends (slice_get (intents_of place entry operation) (length front)) a
  meant_here entry front behind c opened (inl x) = absurd (never_empty front behind a x.1.0)
  meant_here entry front behind c opened (inr x) =
      let same : x.0.0 ≡ entry = same_opened catalogued operation x.0.0 entry x.0.1 opened in
      let at = zip_at (intents_of place entry operation) front a behind (rw same at x.0.2) in
      rw at.1 at.2

  -- an access that the request makes next is the one that it intends
  pub meant : (made : ℕ) (intent : Option Intent) → IsIntent catalogue size place operation made intent
      → IsNextAccess catalogue size place operation made a → Intends intent a
  meant made intent is (front, behind, c, long, done) = both_options {R = Intends intent a} (refusal_of catalogue size operation)
      (λ x y. rw (x.2, ← long) (meant_here x.0 front behind c x.1 y))
      (λ errno x y. absurd (never_empty front behind a y.0)) is done

module _ (table : Table) where
  -- an access reaches slots that its request may reach
  abbrev pub Comes : Operation → Access → Type 0
  Comes operation a = (slot : ℕ) → ComesTo table.range a slot → MayReach table.range operation slot

  entries_come : (place : Place) (off : ℕ) (all : List ℤ) (in_list slot : ℕ) (list : List ℤ) (own : List Access) → off ≤ slot
      → slot + length list ≤ off + length all → AllZip IsOf (list_intents place in_list slot list) own → All (Comes (Updates off all)) own
  entries_come place off all in_list slot [] [] low high x = All-nil (Comes (Updates off all))
  entries_come place off all in_list slot [] (a ∷ own) low high x = absurd x
  entries_come place off all in_list slot (pos n ∷ list) [] low high x = absurd x
  entries_come place off all in_list slot (pos n ∷ list) (a ∷ own) low high x =
      All-cons (Comes (Updates off all)) a own (rw x.0.1 (λ s is. rw is (low, omega arith)))
      (entries_come place off all (in_list + 1) (slot + 1) list own (omega arith) (omega arith) x.1)
  entries_come place off all in_list slot (negsuc zero ∷ list) [] low high x = absurd x
  entries_come place off all in_list slot (negsuc zero ∷ list) (a ∷ own) low high x =
      All-cons (Comes (Updates off all)) a own (rw x.0.1 (λ s is. rw is (low, omega arith)))
      (entries_come place off all (in_list + 1) (slot + 1) list own (omega arith) (omega arith) x.1)
  entries_come place off all in_list slot (negsuc (suc n) ∷ list) own low high x =
      entries_come place off all (in_list + 1) (slot + 1) list own (omega arith) (omega arith) x

  any_comes : {file : Identity} (name : List ℕ) (a : Access) → IsOf (Allocate file) a → Comes (Opens name Any) a
  any_comes name a (inl x) = rw x.1 (λ s comes. (comes.1, comes.2))
  any_comes name a (inr x) = rw x (λ s comes. comes)

  pub all_come : (catalogue : List FileEntry) (place : Place) (own : List Access) (c : Completed) (operation : Operation)
      → IsDoneAtTable catalogue place operation own c → All (Comes operation) own
  all_come catalogue place own c operation h6 = grind (arith, All-nil, single, one, any_comes, entries_come)
