-- Evidence in the result of a request for its accesses.
use Rattle.check_certificate.proofs.Words.{◌≡◌, ◌⊎◌, ℕ, zero, suc, ◌+◌, ◌<◌, List, [], ◌∷◌, length, refl, sym, arith, inl, inr, Some, None, Option, ℤ}
use Rattle.check_certificate.proofs.Words.{⊎_elim, slice_get, Access, Identity, Asked, Place, Completed, FileEntry, refusal, ECANCELED, Puts, Looks}
use Rattle.check_certificate.proofs.Words.{Allocates, Clears, Takes, FindsFull, either_way, IsEvident, IsEvidentOf, IsEvidentByLook, evidence_of, Any}
use Rattle.check_certificate.proofs.Words.{IsEvidentByMember, Evidence, Empties, IsCatalogue, ENOMEM, both_options, IsIntent, IsOpened, intents_of}
use Rattle.check_certificate.proofs.Words.{answer_at_table, list_intents, Operation, Opens, Reads, Closes, refusal_of, Intent, Look, Clear, Take, pos}
use Rattle.check_certificate.proofs.Words.{Allocate, Slot, by_intents, same_opened, at_itself, AllZip, IsOf, installed, last_finding, negsuc}
use Rattle.fx_chain.specs.declared.intent.Intent.TheVariants.{Put}

-- an access that empties its slot leaves it empty
emptied_so : (a : Access) (slot : ℕ) (removed : Option Identity) → (a ≡ Clears slot removed) ⊎ (a ≡ Takes slot removed) → IsEvident a (Empties slot)
emptied_so a slot removed (inl is) = rw is (λ t may. at_itself slot None (t.at slot))
emptied_so a slot removed (inr is) = rw is (λ t may. at_itself slot None (t.at slot))

module _ (catalogue : List FileEntry) (place : Place) (is : IsCatalogue catalogue) where
  -- what the answer of an operation with these accesses says of each of its intents
  abbrev AreEvident : Operation → List Access → Type 0
  AreEvident operation accesses =
      (k : ℕ) (intent : Intent) (entry : ℕ) → IsOpened catalogue operation entry → Some intent ≡ slice_get (intents_of place entry operation) k
      → IsEvidentOf accesses k (evidence_of intent (answer_at_table catalogue place operation (last_finding accesses)).res)

  list_evident : (res : ℤ) (in_list slot : ℕ) (list : List ℤ) (own : List Access) → AllZip IsOf (list_intents place in_list slot list) own
      → (k : ℕ) (intent : Intent) → Some intent ≡ slice_get (list_intents place in_list slot list) k → IsEvidentOf own k (evidence_of intent res)
  list_evident res in_list slot [] own all k intent so = absurd (cc)
  list_evident res in_list slot (pos n ∷ list) [] all k intent so = absurd all
  list_evident res in_list slot (pos n ∷ list) (a ∷ own) all zero intent so =
      let own_intent : intent ≡ Put slot (installed place in_list n) = cc in
      rw own_intent (a, refl, rw all.0.1 (refl, refl))
  list_evident res in_list slot (pos n ∷ list) (a ∷ own) all (suc k) intent so = list_evident res (in_list + 1) (slot + 1) list own all.1 k intent so
  list_evident res in_list slot (negsuc zero ∷ list) [] all k intent so = absurd all
  list_evident res in_list slot (negsuc zero ∷ list) (a ∷ own) all zero intent so =
      let own_intent : intent ≡ Clear slot = cc in
      rw own_intent (a, refl, emptied_so a slot all.0.0 (inl all.0.1))
  list_evident res in_list slot (negsuc zero ∷ list) (a ∷ own) all (suc k) intent so = list_evident res (in_list + 1) (slot + 1) list own all.1 k intent so
  list_evident res in_list slot (negsuc (suc n) ∷ list) own all k intent so = list_evident res (in_list + 1) (slot + 1) list own all k intent so

  single_evident : (a : Access) (own : Intent) (res : ℤ) → IsEvident a (evidence_of own res)
      → (k : ℕ) (intent : Intent) → Some intent ≡ slice_get (own ∷ []) k → IsEvidentOf (a ∷ []) k (evidence_of intent res)
  single_evident a own res evidence zero intent so = let same : intent ≡ own = cc in rw same (a, refl, evidence)
  single_evident a own res evidence (suc k) intent so = absurd (cc)

  read_evident : (slot off len : ℕ) (found : Option Identity)
      → IsEvident (Looks slot found) (evidence_of (Look slot) (answer_at_table catalogue place (Reads slot off len) (last_finding (Looks slot found ∷ []))).res)
  read_evident slot off len None = λ t may. sym may.1
  read_evident slot off len (Some file) = (file, refl)

  close_evident : (slot : ℕ) (found : Option Identity)
      → IsEvident (Takes slot found) (evidence_of (Take slot) (answer_at_table catalogue place (Closes slot) (last_finding (Takes slot found ∷ []))).res)
  close_evident slot None = emptied_so (Takes slot None) slot None (inr refl)
  close_evident slot (Some file) = (file, refl)

  operation_evident : (operation : Operation) (own : List Access) → (x : (entry : ℕ) × IsOpened catalogue operation entry
      × AllZip IsOf (intents_of place entry operation) own) → AreEvident operation own
  operation_evident operation own x = by_intents catalogue place AreEvident
      (λ name slot entry removed named k intent other opened so.
      grind (arith, same_opened is (Opens name (Slot slot)) other entry opened named, single_evident (Puts slot (installed place 0 entry) removed) (Put slot (installed place 0 other)) (pos 0)))
      (λ name slot entry named k intent other opened so.
      grind (arith, same_opened is (Opens name Any) other entry opened named, single_evident (Allocates slot (installed place 0 entry)) (Allocate (installed place 0 other)) (pos slot)))
      (λ name entry named k intent other opened so. single_evident FindsFull (Allocate (installed place 0 other)) (negsuc 22) refl k intent so)
      (λ slot off len found k intent other opened so. grind (arith, single_evident (Looks slot found) (Look slot), read_evident slot off len found))
      (λ slot found k intent other opened so. grind (arith, single_evident (Takes slot found) (Take slot), close_evident slot found))
      (λ off list l fits k intent other opened so. list_evident (pos (length list)) 0 off list l fits k intent so)
      operation own x

-- what the answer of a member says of its access
pub evident_member : (catalogue : List FileEntry) (size : ℕ) (c : Completed) (request : Asked) (k : ℕ) (intent : Intent) → IsCatalogue catalogue
    → IsIntent catalogue size c.place request.operation k (Some intent) → (c ≡ refusal c.place ECANCELED → ⊥) → (c ≡ refusal c.place ENOMEM → ⊥)
    → IsEvidentByMember catalogue size c request k (evidence_of intent c.res)
evident_member catalogue size c request k intent is intended running fed accesses (inl canceled) = absurd (running canceled.0)
evident_member catalogue size c request k intent is intended running fed accesses (inr done) =
    both_options {R = IsEvidentOf accesses k (evidence_of intent c.res)} (refusal_of catalogue size request.operation)
    (λ mine at_table. ⊎_elim
    (λ lacks. absurd (fed lacks.1.1))
    (λ made. grind (arith, operation_evident catalogue c.place is request.operation accesses made.0 k intent mine.0 mine.1 mine.2)) at_table)
    (λ errno none refused. absurd (cc none)) intended done

-- and that of a look
pub evident_look : (size slot : ℕ) (found : Option Identity) → slot < size → (evidence : Evidence) → IsEvident (Looks slot found) evidence
    → IsEvidentByLook size slot found 0 evidence
evident_look size slot found inside evidence is accesses done = grind (arith, either_way)
