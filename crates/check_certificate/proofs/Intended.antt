-- An access of a chain is one that a member of it intends; a member that fails installs no file.
use Rattle.check_certificate.proofs.Words.{◌≡◌, length, ⊎_elim, Option, Access, Identity, IsIntent, IsOpened, none_if, opened_by, Operation}
use Rattle.check_certificate.proofs.Words.{◌⊎◌, suc, ◌+◌, ◌∷◌, ◌++◌, refl, sym, ap, ◌∙◌, inl, inr, Some, None, Has, IsOf, pos}
use Rattle.check_certificate.proofs.Words.{ℕ, IsRequestDone, placed-append, either_option, both_options, entry_opened, option_and_then, IsDoneAtTable}
use Rattle.check_certificate.proofs.Words.{zero, IsChainDone, either_way, next_member, MayInstall, IsCatalogue, same_opened, each_placed, MatchOption}
use Rattle.check_certificate.proofs.Words.{List, slice_get, Completed, FileEntry, Submitted, intents_of, refusal_of, has_either}
use Rattle.check_certificate.proofs.Words.{[], arith, subst, Asked, Place, placed, Closed, severs, IsPut, Errno, Intent, zip_at}
use Rattle.check_certificate.proofs.Marks.{IsOfChain, chain_own}
use Rattle.check_certificate.proofs.Parts.{none_of}
use Rattle.check_certificate.specs.Made.{intended as found_intent}

-- an element of a list of two parts is in one of them
split : {X : Type 0} (xs ys front : List X) (a : X) (rest : List X) → xs ++ ys ≡ front ++ a ∷ rest
    → ((more : List X) × (xs ≡ front ++ a ∷ more)) ⊎ ((less : List X) × (ys ≡ less ++ a ∷ rest))
split [] ys front a rest is = inr (front, is)
split (x ∷ xs) ys [] a rest is = let same : x ≡ a = cc in inl (xs, ap (λ z. z ∷ xs) same)
split (x ∷ xs) ys (f ∷ front) a rest is =
    let head : x ≡ f = cc in
    let tail : xs ++ ys ≡ front ++ a ∷ rest = cc in grind (arith, split xs ys front a rest tail)

abbrev pub moved : Place → ℕ → Place
moved place n = record place { member = place.member + n }

pub intent_once : (catalogue : List FileEntry) (size : ℕ) (place : Place) (operation : Operation) (k : ℕ) (x y : Option Intent) → IsCatalogue catalogue
    → IsIntent catalogue size place operation k x → IsIntent catalogue size place operation k y → x ≡ y
intent_once catalogue size place operation k x y is one other = grind (arith, both_options, same_opened)

-- what a request intends is what its definition finds
pub intended_is : (catalogue : List FileEntry) (size : ℕ) (place : Place) (operation : Operation) (k : ℕ) (x : Option Intent) → IsCatalogue catalogue
    → IsIntent catalogue size place operation k x → x ≡ found_intent catalogue size place operation k
unfolding found_intent
intended_is catalogue size place operation k x is one = by_refusal (refusal_of catalogue size operation) one
  where
    by_refusal : (refused : Option Errno)
        → MatchOption refused ((entry : ℕ) × IsOpened catalogue operation entry × (x ≡ slice_get (intents_of place entry operation) k)) (λ errno. x ≡ None)
        → x ≡ option_and_then (λ entry. none_if refused (slice_get (intents_of place entry operation) k)) (opened_by catalogue operation)
    by_refusal refused h2 = grind (arith, entry_opened, none_if)

-- an access of an intent that installs a file
pub may_install : (intent : Intent) (a : Access) (slot : ℕ) (file : Identity) → IsOf intent a → IsPut a slot file → MayInstall intent slot file
may_install intent a slot file h5 put = grind arith

module _ (catalogue : List FileEntry) (size : ℕ) where
  -- an access is the one with a number of those that a member of the chain intends, which has an
  -- answer
  pub record IsIntended (place : Place) (requests : List Asked) (a : Access) (cs : List Completed) (number : ℕ) : Type 0 where
    pub n : ℕ
    pub request : Asked
    pub asked : slice_get requests n ≡ Some request
    pub k : ℕ
    pub intent : Intent
    pub is : IsIntent catalogue size (moved place n) request.operation k (Some intent)
    pub of : IsOf intent a
    pub c : Completed
    pub answer : slice_get cs n ≡ Some c
    pub at : Place
    pub front : List Access
    pub rest : List Access
    pub done : IsRequestDone catalogue size at request.operation (front ++ a ∷ rest) c
    -- those of the first member are the first ones
    pub first : n ≡ 0 → number ≡ k

  of_request : (place : Place) (request : Asked) (requests : List Asked) (front : List Access) (a : Access) (rest own : List Access) (c : Completed) (cs : List Completed)
      → own ≡ front ++ a ∷ rest → (given : IsRequestDone catalogue size place request.operation own c)
      → IsIntended place (request ∷ requests) a (c ∷ cs) (length front)
  of_request place request requests front a rest own c cs is given =
      either_option {R = IsIntended place (request ∷ requests) a (c ∷ cs) (length front)} (refusal_of catalogue size request.operation) at_table
      (λ errno x. absurd (none_of front a rest (sym x.0 ∙ is))) given
    where
      at_table : refusal_of catalogue size request.operation ≡ None → IsDoneAtTable catalogue place request.operation own c
          → IsIntended place (request ∷ requests) a (c ∷ cs) (length front)
      at_table accepted (inl lacks) = absurd (none_of front a rest (sym lacks.1.0 ∙ is))
      at_table accepted (inr made) =
          let one = zip_at (intents_of place made.0.0 request.operation) front a rest (rw is at made.0.2) in
          let here : IsIntent catalogue size place request.operation (length front) (Some one.0) = rw accepted (made.0.0, made.0.1, sym one.1) in
          let e : place.member ≡ place.member + 0 = omega arith in record {
            n = 0;
            request = request;
            asked = refl;
            k = length front;
            intent = one.0;
            is = subst (λ (m : ℕ). IsIntent catalogue size (record place { member = m }) request.operation (length front) (Some one.0)) e here;
            of = one.2;
            c = c;
            answer = refl;
            at = place;
            front = front;
            rest = rest;
            done = rw is at given;
            first = λ _. refl;
          }

  next : (place : Place) (request : Asked) (requests : List Asked) (a : Access) (d : Completed) (cs : List Completed) (less number : ℕ)
      → IsIntended (next_member place) requests a cs less → IsIntended place (request ∷ requests) a (d ∷ cs) number
  next place request requests a d cs less number x =
      let e : place.member + 1 + x.n ≡ place.member + suc x.n = omega arith in grind arith

  pub intended : (place : Place) (requests : List Asked) (front : List Access) (a : Access) (rest : List Access) (cs : List Completed)
      → IsChainDone catalogue size place requests (front ++ a ∷ rest) cs → IsIntended place requests a cs (length front)
  intended place [] front a rest cs x = absurd (none_of front a rest (sym x.0))
  intended place (request ∷ requests) front a rest cs x =
      subst (λ (l : List Completed). IsIntended place (request ∷ requests) a l (length front)) (sym x.5) (⊎_elim
      (λ here. of_request place request requests front a here.0 x.0 x.2 x.3 here.1 x.6)
      (λ later. either_way {R = IsIntended place (request ∷ requests) a (x.2 ∷ x.3) (length front)} (severs request x.2)
      (λ _ y. absurd (none_of later.0 a rest (sym y.0 ∙ later.1)))
      (λ _ y. next place request requests a x.2 x.3 (length later.0) (length front) (intended (next_member place) requests later.0 a rest x.3 (rw later.1 at y))) x.7)
      (split x.0 x.1 front a rest (sym x.4)))

  -- the member of a file that a chain installs has a number as its answer
  pub chain_number : (place : Place) (requests : List Asked) (accesses : List Access) (cs : List Completed)
      → IsChainDone catalogue size place requests accesses cs → (slot : ℕ) (f : Closed) → Has (placed accesses) slot f
      → (n j : ℕ) (c : Completed) → slice_get cs n ≡ Some c → f.mark ≡ Submitted place.submission place.chain (place.member + n) j
      → (res : ℕ) × (c.res ≡ pos res)
  chain_number place [] accesses cs x slot f has n j c at mark = let none : Has [] slot f = rw x.0 at has in absurd none
  chain_number place (request ∷ requests) accesses cs x slot f has n j c at mark =
      let both : Has (placed x.0 ++ placed x.1) slot f = rw (x.4, placed-append x.0 x.1) at has in
      let list : slice_get (x.2 ∷ x.3) n ≡ Some c = rw x.5 at at in
      ⊎_elim
      (λ here. let own = (each_placed catalogue size place request.operation x.0 x.2 x.6).0 slot f here in
      let same : place.member ≡ place.member + n = cc (sym own.is.mark ∙ mark) in
      let zero_is : n ≡ 0 = omega arith in
      let first : Some x.2 ≡ Some c = rw zero_is at list in
      let one : x.2 ≡ c = cc in
      (own.res, ap (λ (d : Completed). d.res) (sym one) ∙ own.accepted))
      (λ there. either_way {R = (res : ℕ) × (c.res ≡ pos res)} (severs request x.2)
      (λ _ y. let none : Has [] slot f = rw y.0 at there in absurd none)
      (λ _ y. later x.1 x.3 y slot f there (chain_number (next_member place) requests x.1 x.3 y slot f there) n j c x.2 list mark) x.7)
      (has_either (placed x.0) (placed x.1) slot f both)
    where
      later : (others : List Access) (ds : List Completed) → IsChainDone catalogue size (next_member place) requests others ds
          → (slot : ℕ) (f : Closed) → Has (placed others) slot f
          → ((n j : ℕ) (c : Completed) → slice_get ds n ≡ Some c
          → f.mark ≡ Submitted place.submission place.chain (place.member + 1 + n) j → (res : ℕ) × (c.res ≡ pos res))
          → (n j : ℕ) (c d : Completed) → slice_get (d ∷ ds) n ≡ Some c
          → f.mark ≡ Submitted place.submission place.chain (place.member + n) j → (res : ℕ) × (c.res ≡ pos res)
      later others ds y slot f there again zero j c d at mark =
          let own : IsOfChain (next_member place) f = (chain_own catalogue size (next_member place) requests others ds y).0 slot f there in
          let same : place.member + 0 ≡ own.0 = cc (sym mark ∙ own.2) in
          let low = own.3 in absurd (omega arith)
      later others ds y slot f there again (suc n) j c d at mark =
          let e : place.member + suc n ≡ place.member + 1 + n = omega arith in
          again n j c at (rw e at mark)
