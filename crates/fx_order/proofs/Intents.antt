-- A request's accesses are those that it intends, and its completion is the answer by what they
-- found.
use Rattle.fx_order.proofs.{◌≡◌, ◌↔◌, ℕ, zero, suc, ◌+◌, ◌-◌, ◌≤◌, ℤ, pos, negsuc, List, [], ◌∷◌, ◌++◌, refl, ap, ◌∙◌, Some, None, inl, ⊎_elim}
use Rattle.fx_order.proofs.{FileEntry, Completed, Operation, Opens, Reads, Closes, Updates, Place, Slot, Any, Access, IsCatalogue, arith, length}
use Rattle.fx_order.proofs.{positions_from, positions_of, slice_get, Bool, IsTrue, completed, drop, refusal_of, slice_index_or, take, IsRequestDone}
use Rattle.fx_order.proofs.{Allocates, Closed, FindsFull, Looks, Puts, Takes, installed, name_at, IsOpened, allocated, answer_at_table, intents_of}
use Rattle.fx_order.proofs.{list_intents, Intent, AllZip, IsOf, Option, At, Free, AreIntended, IsOwnEntry, LacksMemory, first_and_rest}
use Rattle.fx_order.proofs.Words.{last_finding}

-- the accesses of a request that intends one
pub single : (x : Intent) (Q : List Access → Type 0) (own : List Access) → AllZip IsOf (x ∷ []) own
    → ((a : Access) → IsOf x a → Q (a ∷ [])) → Q own
single x Q own all so = grind arith

-- as many as are intended
length_zip : (xs : List Intent) (us : List Access) → AllZip IsOf xs us → length us ≡ length xs
length_zip [] [] x = refl
length_zip (x ∷ xs) (u ∷ us) all = ap suc (length_zip xs us all.1)
length_zip [] (u ∷ us) all = absurd all
length_zip (x ∷ xs) [] all = absurd all

-- the intent of an access
pub zip_at : (xs : List Intent) (front : List Access) (a : Access) (others : List Access) → AllZip IsOf xs (front ++ a ∷ others)
    → (x : Intent) × (slice_get xs (length front) ≡ Some x) × IsOf x a
zip_at [] [] a others all = absurd all
zip_at [] (u ∷ front) a others all = absurd all
zip_at (x ∷ xs) [] a others all = (x, refl, all.0)
zip_at (x ∷ xs) (u ∷ front) a others all = zip_at xs front a others all.1

-- each catalogue has one entry of a name
pub same_opened : {catalogue : List FileEntry} → IsCatalogue catalogue → (operation : Operation) (e f : ℕ) → IsOpened catalogue operation e
    → IsOpened catalogue operation f → e ≡ f
same_opened is operation e f x y = grind arith

module _ (place : Place) where
  length-intents : (in_list slot : ℕ) (list : List ℤ)
      → length (list_intents place in_list slot list) ≡ length (positions_from in_list list)
  length-intents in_list slot [] = refl
  length-intents in_list slot (negsuc (suc n) ∷ list) = grind (arith, length-intents (in_list + 1) (slot + 1) list)
  length-intents in_list slot (z ∷ list) = ap suc (length-intents (in_list + 1) (slot + 1) list)

  -- one intent for each position
  pub as_many_intents : (entry : ℕ) (operation : Operation) → length (intents_of place entry operation) ≡ length (positions_of operation)
  as_many_intents entry operation = grind (arith, length-intents)

  pub as_many : (entry : ℕ) (operation : Operation) (own : List Access) → AllZip IsOf (intents_of place entry operation) own
      → length own ≡ length (positions_of operation)
  as_many entry operation own all = length_zip (intents_of place entry operation) own all ∙ as_many_intents entry operation

-- the intents from one access on, and from the next one
pub drop_got : {X : Type 0} (xs : List X) (i : ℕ) (x : X) → slice_get xs i ≡ Some x → drop i xs ≡ x ∷ drop (i + 1) xs
drop_got [] i x is = absurd (cc)
drop_got (y ∷ xs) zero x is = let e : y ≡ x = cc in ap (λ z. z ∷ xs) e
drop_got (y ∷ xs) (suc i) x is = let e : suc i + 1 ≡ suc (i + 1) = omega arith in rw e (drop_got xs i x is)

pub drop_past : {X : Type 0} (xs : List X) (i : ℕ) → slice_get xs i ≡ None → drop i xs ≡ []
drop_past [] zero is = refl
drop_past [] (suc i) is = refl
drop_past (y ∷ xs) zero is = absurd (cc)
drop_past (y ∷ xs) (suc i) is = drop_past xs i is

-- one access, and those after it
pub next_fits : (xs : List Intent) (made : ℕ) (x : Intent) (accesses : List Access) (d : Access) → slice_get xs made ≡ Some x → 1 ≤ length accesses
    → (b e : Bool) → IsTrue b ↔ IsOf x (slice_index_or accesses 0 d) → IsTrue b
    → IsTrue e ↔ AllZip IsOf (drop (made + 1) xs) (take (length accesses - 1) (drop 1 accesses)) → IsTrue e ↔ AllZip IsOf (drop made xs) accesses
next_fits xs made x accesses d got some b e fits met rest = grind (arith, first_and_rest, drop_got)

-- a property of the accesses that a request intends, by its operation and what they find
module _ (catalogue : List FileEntry) (place : Place) (P : Operation → List Access → Type 0)
    (puts : (name : List ℕ) (slot entry : ℕ) (removed : Option Closed) → name_at catalogue entry ≡ Some name
    → P (Opens name (Slot slot)) (Puts slot (installed place 0 entry) removed ∷ []))
    (allocates : (name : List ℕ) (slot entry : ℕ) → name_at catalogue entry ≡ Some name
    → P (Opens name Any) (Allocates slot (installed place 0 entry) ∷ []))
    (full : (name : List ℕ) (entry : ℕ) → name_at catalogue entry ≡ Some name → P (Opens name Any) (FindsFull ∷ []))
    (looks : (slot off len : ℕ) (found : Option Closed) → P (Reads slot off len) (Looks slot found ∷ []))
    (takes : (slot : ℕ) (found : Option Closed) → P (Closes slot) (Takes slot found ∷ []))
    (updates : (off : ℕ) (list : List ℤ) (own : List Access) → AllZip IsOf (list_intents place 0 off list) own → P (Updates off list) own) where
  pub by_intents : (operation : Operation) (own : List Access) → AreIntended catalogue place operation own → P operation own
  by_intents operation own x = grind (arith, single)

module _ (catalogue : List FileEntry) (place : Place) where
  -- the accesses are intended by the entry that was chosen
  pub chosen : (operation : Operation) (own : List Access) (entry : ℕ) → IsOpened catalogue operation entry
      → IsOwnEntry catalogue operation own entry → AreIntended catalogue place operation own → AllZip IsOf (intents_of place entry operation) own
  chosen operation own entry opened mine x = grind (arith, by_intents)

  list_found : (in_list slot free : ℕ) (list : List ℤ) (own : List Access) → AllZip IsOf (list_intents place in_list slot list) own
      → last_finding own ≡ Some (Free free) → ⊥
  list_found in_list slot free [] [] x is = cc
  list_found in_list slot free [] (a ∷ own) x is = x
  list_found in_list slot free (negsuc (suc n) ∷ list) own x is = list_found (in_list + 1) (slot + 1) free list own x is
  list_found in_list slot free (z ∷ list) [] x is = x
  list_found in_list slot free (z ∷ list) (a ∷ []) x is = let e : Some (At x.0.0) ≡ Some (Free free) = rw x.0.1 at is in cc
  list_found in_list slot free (z ∷ list) (a ∷ b ∷ own) x is = list_found (in_list + 1) (slot + 1) free list (b ∷ own) x.1 is

  -- only an open at any slot finds a free slot, and answers it
  pub free_answer : (operation : Operation) (own : List Access) (free : ℕ) → AreIntended catalogue place operation own
      → last_finding own ≡ Some (Free free) → answer_at_table catalogue place operation (last_finding own) ≡ completed place (pos free) []
  free_answer operation own free = grind (arith, by_intents, allocated, list_found)

  -- a request that isn't refused, and doesn't lack memory
  module _ (size : ℕ) (operation : Operation) (own : List Access) (c : Completed) (accepted : refusal_of catalogue size operation ≡ None) where
    abbrev Lacks : Type 0
    Lacks = LacksMemory place operation own c

    pub lacks : Lacks → IsRequestDone catalogue size place operation own c
    lacks x = rw accepted (inl x)

    pub not_intended : (Lacks → ⊥) → (AreIntended catalogue place operation own → ⊥) → IsRequestDone catalogue size place operation own c → ⊥
    not_intended full other x = ⊎_elim full (λ y. other y.0) (rw accepted at x)

    pub as_answered : (Lacks → ⊥) → AreIntended catalogue place operation own → (b : Bool)
        → IsTrue b ↔ (c ≡ answer_at_table catalogue place operation (last_finding own)) → IsTrue b ↔ IsRequestDone catalogue size place operation own c
    as_answered full fits b same = grind arith
