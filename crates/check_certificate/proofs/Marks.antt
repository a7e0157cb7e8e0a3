-- No two accesses of a flight install files with the same mark.
use Rattle.check_certificate.proofs.Words.{◌≡◌, ℕ, ◌<◌, ◌≤◌, List, [], ◌∷◌, ◌++◌, refl, sym, ap, ◌∙◌, arith, append_assoc, Moment, Accesses}
use Rattle.check_certificate.proofs.Words.{IsOlderPart, Access, IsPut, IsAccessAt, Has, placed, placed-append, has_left, has_right, Looks, Identity}
use Rattle.check_certificate.proofs.Words.{Closed, Submitted, Asked, Place, Completed, IsChainDone, IsFlight, FlightSetting, MayAccess, FileEntry}
use Rattle.check_certificate.proofs.Words.{Option, RingState, either_way, if◌then◌else◌, severs, next_member, made_by, by_equality, made_by-parts}
use Rattle.check_certificate.proofs.Words.{first_of_call, Own, own_both, own_none, own_weaker, once_between, each_placed}
use Rattle.check_certificate.proofs.Parts.{by_put, part_is_flight, shorter}

-- the mark is that of a member of the chain, from a place on
abbrev pub IsOfChain : Place → Closed → Type 0
IsOfChain place f = (m : ℕ) × (j : ℕ) × (f.mark ≡ Submitted place.submission place.chain m j) × (place.member ≤ m)

-- or of one member
abbrev IsOfMember : Place → Closed → Type 0
IsOfMember place f = (j : ℕ) × (f.mark ≡ Submitted place.submission place.chain place.member j)

module _ (catalogue : List FileEntry) (size : ℕ) where
  -- the files that a chain installs have marks of its members, no two the same
  pub chain_own : (place : Place) (requests : List Asked) (accesses : List Access) (cs : List Completed)
      → IsChainDone catalogue size place requests accesses cs → Own (IsOfChain place) (placed accesses)
  chain_own place [] accesses cs x = rw x.0 own_none
  chain_own place (request ∷ requests) accesses cs x =
      rw (x.4, placed-append x.0 x.1) (own_both {P = IsOfMember place} {Q = IsOfChain (next_member place)} (placed x.0) (placed x.1)
      (λ f is. (place.member, is.0, is.1, omega arith)) (λ f later. (later.0, later.1, later.2, omega (arith, later.3))) (grind arith)
      (own_weaker (placed x.0) (λ f is. (is.at, is.is.mark)) (each_placed catalogue size place request.operation x.0 x.2 x.6))
      (either_way {R = Own (IsOfChain (next_member place)) (placed x.1)} (severs request x.2)
      (λ _ y. rw y.0 own_none) (λ _ y. chain_own (next_member place) requests x.1 x.3 y) x.7))

-- of a list with this access in it
pub has_in : (front : List Access) (a : Access) (rest : List Access) (slot : ℕ) (file : Identity) → IsPut a slot file
    → Has (placed (front ++ a ∷ rest)) slot file
has_in front a rest slot file is = grind (arith, placed-append, has_right, placed, has_left, by_put)

pub no_look : (a : Access) (looked : ℕ) (found : Option Identity) (slot : ℕ) (file : Identity) → a ≡ Looks looked found → IsPut a slot file → ⊥
no_look a looked found slot file same is = let put : IsPut (Looks looked found) slot file = rw same at is in put

module _ (old : RingState) (answers : ℕ → List Completed) where
  abbrev s : FlightSetting
  s = record { old = old; first = first_of_call; answers = answers }

  -- an access that installs a file is one of a chain
  pub record IsOne (flight : List Moment) (id : ℕ) (a : Access) : Type 0 where
    pub requests : List Asked
    pub more : List Access
    pub done : IsChainDone old.catalogue old.size (first_of_call id) requests ((made_by id flight ++ a ∷ []) ++ more) (answers id)

  pub of_chain : (flight : List Moment) (id slot : ℕ) (a : Access) (file : Identity) → IsPut a slot file → MayAccess s flight id a → IsOne flight id a
  of_chain flight id slot a file put h7 = grind (arith, no_look)

  own_of : (flight : List Moment) (id : ℕ) (a : Access) (one : IsOne flight id a)
      → Own (IsOfChain (first_of_call id)) (placed ((made_by id flight ++ a ∷ []) ++ one.more))
  own_of flight id a one = chain_own old.catalogue old.size (first_of_call id) one.requests _ (answers id) one.done

  module _ (flight : List Moment) (is : IsFlight s flight) (file : Identity) where
    may_at : (id time : ℕ) (a : Access) (at : IsAccessAt flight id a time) → MayAccess s at.0 id a
    may_at id time a at = (part_is_flight s flight (Accesses (record { chain = id; access = a }) ∷ at.0) at.1 is).1.1

    -- the file has a mark of its call
    pub mark_at : (id slot time : ℕ) (a : Access) → IsPut a slot file → IsAccessAt flight id a time → IsOfChain (first_of_call id) file
    mark_at id slot time a put at =
        let one = of_chain at.0 id slot a file put (may_at id time a at) in
        let has : Has (placed ((made_by id at.0 ++ a ∷ []) ++ one.more)) slot file =
        rw (append_assoc (made_by id at.0) (a ∷ []) one.more) (has_in (made_by id at.0) a one.more slot file put) in
        (own_of at.0 id a one).0 slot file has

    -- not once more later
    not_again : (id slot time jd lot later : ℕ) (a b : Access) → IsPut a slot file → IsAccessAt flight id a time → IsPut b lot file
        → IsAccessAt flight jd b later → time < later → ⊥
    not_again id slot time jd lot later a b put at put_b at_b lt =
        let mark = mark_at id slot time a put at in
        let mark_b = mark_at jd lot later b put_b at_b in
        let same : jd ≡ id = cc (sym mark_b.2 ∙ mark.2) in
        let x : Moment = Accesses (record { chain = id; access = a }) in
        let inside_b : IsOlderPart at_b.0 flight = (
          at_b.1.0 ++ Accesses (record { chain = jd; access = b }) ∷ [],
          at_b.1.1 ∙ sym (append_assoc at_b.1.0 (Accesses (record { chain = jd; access = b }) ∷ []) at_b.0),
        ) in
        let few = at.2 in let few_b = at_b.2 in
        let more : IsOlderPart (x ∷ at.0) at_b.0 = shorter at_b.0 (x ∷ at.0) inside_b at.1 (omega arith) in
        let one = of_chain at_b.0 jd lot b file put_b (may_at jd later b at_b) in
        let made : made_by id (x ∷ at.0) ≡ made_by id at.0 ++ a ∷ [] =
        by_equality id id (λ c. (if c then made_by id at.0 ++ a ∷ [] else made_by id at.0) ≡ made_by id at.0 ++ a ∷ []) (λ _. refl)
        (λ other. absurd (other refl)) in
        let all : made_by jd at_b.0 ≡ (made_by id at.0 ++ a ∷ []) ++ made_by id more.0 =
        ap (λ k. made_by k at_b.0) same ∙ (ap (made_by id) more.1 ∙ (made_by-parts id more.0 (x ∷ at.0) ∙ ap (λ l. l ++ made_by id more.0) made)) in
        let first : Has (placed (made_by jd at_b.0)) slot file =
        rw (all, append_assoc (made_by id at.0) (a ∷ []) (made_by id more.0)) (has_in (made_by id at.0) a (made_by id more.0) slot file put) in
        let list : placed ((made_by jd at_b.0 ++ b ∷ []) ++ one.more) ≡ placed (made_by jd at_b.0) ++ placed (b ∷ one.more) =
        ap placed (append_assoc (made_by jd at_b.0) (b ∷ []) one.more) ∙ placed-append (made_by jd at_b.0) (b ∷ one.more) in
        once_between (placed (made_by jd at_b.0)) (placed (b ∷ one.more)) slot lot file file (rw list at (own_of at_b.0 jd b one).1) first
        (has_in [] b one.more lot file put_b) refl

    pub put_once : (id slot time jd lot later : ℕ) (a b : Access) → IsPut a slot file → IsAccessAt flight id a time → IsPut b lot file
        → IsAccessAt flight jd b later → time ≡ later
    put_once id slot time jd lot later a b put at put_b at_b =
        grind (arith, not_again id slot time jd lot later a b put, not_again jd lot later id slot time b a put_b at_b put)
