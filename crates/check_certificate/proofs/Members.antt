-- The accesses of a member, or of a look, whose answer is in a flight, and their times.
use Rattle.check_certificate.proofs.Words.{◌≡◌, ◌⊎◌, ℕ, zero, ◌+◌, ◌-◌, ◌<◌, List, [], ◌∷◌, ◌++◌, length, take, refl, sym, ap, ◌∙◌, arith, inl, inr}
use Rattle.check_certificate.proofs.Words.{suc, ⊎_elim, append_assoc, append-nil, Option, Some, None, slice_get, subst, Moment, Logged, Accesses}
use Rattle.check_certificate.proofs.Words.{Access, IsAccessAt, AreAccessTimes, Asked, Place, Completed, IsChainDone, IsRequestDone, FlightSetting}
use Rattle.check_certificate.proofs.Words.{MayFollow, FileEntry, RingState, either_way, severs, next_member, made_by, by_equality, canceled, refusal}
use Rattle.check_certificate.proofs.Words.{ECANCELED, if◌then◌else◌, Happening, Answered, Called, LookAnswered, LookCalled, Freed, FileClosed}
use Rattle.check_certificate.proofs.Words.{AllSettled, answer_place, first_of_call, request_place}
use Rattle.check_certificate.proofs.Parts.{get_front, none_of, one_more}

canceled_at : (place : Place) (requests : List Asked) (k : ℕ) (front : List Completed) (c : Completed) (rest : List Completed)
    → canceled place (take k requests) ≡ front ++ c ∷ rest
    → (r : Asked) × (slice_get requests (length front) ≡ Some r) × (c ≡ refusal c.place ECANCELED)
canceled_at place [] zero front c rest is = absurd (none_of front c rest is)
canceled_at place [] (suc k) front c rest is = absurd (none_of front c rest is)
canceled_at place (r ∷ rs) zero front c rest is = absurd (none_of front c rest is)
canceled_at place (r ∷ rs) (suc k) [] c rest is =
    let same : refusal place ECANCELED ≡ c = cc in (r, refl, subst (λ (d : Completed). d ≡ refusal d.place ECANCELED) same refl)
canceled_at place (r ∷ rs) (suc k) (d ∷ front) c rest is =
    let tail : canceled (next_member place) (take k rs) ≡ front ++ c ∷ rest = cc in canceled_at (next_member place) rs k front c rest tail

module _ (catalogue : List FileEntry) (size : ℕ) where
  -- the last member of a part of a chain, and its accesses
  pub record MemberPart (requests : List Asked) (own : List Access) (n : ℕ) (c : Completed) : Type 0 where
    pub request : Asked
    pub asked : slice_get requests n ≡ Some request
    pub front : List Access
    pub mine : List Access
    pub rest : List Access
    pub accesses : own ≡ front ++ (mine ++ rest)
    pub done : ((c ≡ refusal c.place ECANCELED) × (0 < n)) ⊎ IsRequestDone catalogue size c.place request.operation mine c
    pub none : n ≡ 0 → front ≡ []

  pub member_part : (place : Place) (requests : List Asked) (own : List Access) (earlier : List Completed) (c : Completed) (n : ℕ)
      → length earlier ≡ n → IsChainDone catalogue size place (take (suc n) requests) own (earlier ++ c ∷ []) → MemberPart requests own n c
  member_part place [] own earlier c n few x = absurd (none_of earlier c [] (sym x.1))
  member_part place (request ∷ requests) own [] c zero few x =
      let same : x.2 ≡ c = cc (x.5) in
      let done : IsRequestDone catalogue size place request.operation x.0 c = rw same at x.6 in
      let here : c.place ≡ place = request_place catalogue place size request.operation x.0 c done in
      record { request = request; asked = refl; front = []; mine = x.0; rest = x.1; accesses = x.4; done = inr (subst (λ (p : Place). IsRequestDone catalogue size p request.operation x.0 c) (sym here) done); none = λ _. refl }
  member_part place (request ∷ requests) own [] c (suc n) few x = absurd (omega arith)
  member_part place (request ∷ requests) own (d ∷ earlier) c zero few x = absurd (omega arith)
  member_part place (request ∷ requests) own (d ∷ earlier) c (suc n) few x =
      let tail : x.3 ≡ earlier ++ c ∷ [] = cc (x.5) in
      let long : length earlier ≡ n = omega arith in
      either_way {R = MemberPart (request ∷ requests) own (suc n) c} (severs request x.2)
      (grind (arith, next_member, canceled_at (next_member place) requests (suc n) earlier c))
      (λ _ y. let part = member_part (next_member place) requests x.1 earlier c n long (rw tail at y) in
      record {
        request = part.request;
        asked = part.asked;
        front = x.0 ++ part.front;
        mine = part.mine;
        rest = part.rest;
        accesses = x.4 ∙ (ap (λ l. x.0 ++ l) part.accesses ∙ sym (append_assoc x.0 part.front (part.mine ++ part.rest)));
        done = ⊎_elim (λ y. inl (y.0, omega arith)) (λ y. inr y) part.done;
        none = λ zero. absurd (omega (arith, zero));
      }) x.7

-- Accesses by their numbers.

get_more : (xs : List Access) (y : Access) (n : ℕ) (a : Access) → slice_get (xs ++ y ∷ []) n ≡ Some a
    → (slice_get xs n ≡ Some a) ⊎ ((y ≡ a) × (length xs ≡ n))
get_more [] y zero a is = let same : y ≡ a = cc in inr (same, refl)
get_more [] y (suc n) a is = absurd (cc)
get_more (x ∷ xs) y zero a is = inl is
get_more (x ∷ xs) y (suc n) a is = ⊎_elim (λ here. inl here) (λ last. inr (last.0, omega (arith, last.1))) (get_more xs y n a is)

get_right : (xs ys : List Access) (k : ℕ) (a : Access) → slice_get ys k ≡ Some a → slice_get (xs ++ ys) (length xs + k) ≡ Some a
get_right [] ys k a is = let e : 0 + k ≡ k = omega arith in rw e is
get_right (x ∷ xs) ys k a is = let e : length (x ∷ xs) + k ≡ suc (length xs + k) = omega arith in rw e (get_right xs ys k a is)

-- an access has this time, and this number among those of its call
abbrev IsNumbered : List Moment → ℕ → ℕ → Access → ℕ → Type 0
IsNumbered flight id n a time = (at : IsAccessAt flight id a time) × (length (made_by id at.0) ≡ n)

later_numbered : (m : Moment) (flight : List Moment) (id n : ℕ) (a : Access) (time : ℕ) → IsNumbered flight id n a time → IsNumbered (m ∷ flight) id n a time
later_numbered m flight id n a time at = ((at.0.0, one_more m at.0.1, at.0.2), at.1)

-- the time of an access by its number among those of its call
time_of : (flight : List Moment) (id n : ℕ) (a : Access) → slice_get (made_by id flight) n ≡ Some a → (time : ℕ) × IsNumbered flight id n a time
time_of [] id n a is = absurd (cc)
time_of (Logged e ∷ flight) id n a is = let at = time_of flight id n a is in (at.0, later_numbered (Logged e) flight id n a at.0 at.1)
time_of (Accesses x ∷ flight) id n a is =
    let earlier : slice_get (made_by id flight) n ≡ Some a → (time : ℕ) × IsNumbered (Accesses x ∷ flight) id n a time =
    λ h. let at = time_of flight id n a h in (at.0, later_numbered (Accesses x) flight id n a at.0 at.1) in
    by_equality x.chain id
    (λ b. slice_get (if b then made_by id flight ++ x.access ∷ [] else made_by id flight) n ≡ Some a
    → (time : ℕ) × IsNumbered (Accesses x ∷ flight) id n a time)
    (λ same h. ⊎_elim earlier
    (λ last. (length flight, ((flight, ([], λ i. Accesses (record { chain = same i; access = last.0 i }) ∷ flight), refl), last.1)))
    (get_more (made_by id flight) x.access n a h))
    (λ _ h. earlier h) is

module _ (flight : List Moment) (id : ℕ) (front mine rest : List Access) (is : made_by id flight ≡ front ++ (mine ++ rest)) where
  time_at : (k : ℕ) (o : Option Access) → slice_get mine k ≡ o
      → (time : ℕ) × ((a : Access) → slice_get mine k ≡ Some a → IsNumbered flight id (length front + k) a time)
  time_at k None none = (0, λ a so. absurd (cc (none, so)))
  time_at k (Some b) some =
      let here : slice_get (made_by id flight) (length front + k) ≡ Some b =
      rw is (get_right front (mine ++ rest) k b (get_front mine rest k b some)) in
      let at = time_of flight id (length front + k) b here in
      (at.0, λ a so. let same : b ≡ a = cc (some, so) in subst (λ y. IsNumbered flight id (length front + k) y at.0) same at.1)

  times_of : (times : ℕ → ℕ) × ((k : ℕ) (a : Access) → slice_get mine k ≡ Some a → IsNumbered flight id (length front + k) a (times k))
  times_of = ((λ k. (time_at k (slice_get mine k) refl).0), λ k a so. (time_at k (slice_get mine k) refl).1 a so)

module _ (old : RingState) (answers : ℕ → List Completed) where
  abbrev s : FlightSetting
  s = record { old = old; first = first_of_call; answers = answers }

  -- what an event answers made its accesses at times
  pub access_times : (flight : List Moment) (e : Happening) → MayFollow s flight e → (times : ℕ → ℕ) × AreAccessTimes s flight e times
  access_times flight (Answered id c) may =
      let member = may.2 in
      let place = answer_place old.catalogue old.size (first_of_call id) (take (length member.earlier + 1) may.0) member.own
      (member.earlier ++ c ∷ []) member.earlier c [] member.done refl in
      let count : length member.earlier + 1 ≡ suc (length member.earlier) = omega arith in
      let part = member_part old.catalogue old.size (first_of_call id) may.0 member.own member.earlier c (length member.earlier) refl
      (rw count at member.done) in
      let number : length member.earlier ≡ c.place.member - 1 = omega arith in
      let made : made_by id flight ≡ part.front ++ (part.mine ++ (part.rest ++ member.others)) =
      member.accesses ∙ (ap (λ l. l ++ member.others) part.accesses
      ∙ (append_assoc part.front (part.mine ++ part.rest) member.others ∙ ap (λ l. part.front ++ l) (append_assoc part.mine part.rest member.others))) in
      let times = times_of flight id part.front part.mine (part.rest ++ member.others) made in (
        times.0,
        record {
          requests = may.0;
          called = may.1;
          request = part.request;
          asked = ap (slice_get may.0) (sym number) ∙ part.asked;
          accesses = part.mine;
          done = ⊎_elim (λ y. inl (y.0, let few = y.1 in omega arith)) (λ y. inr y) part.done;
          made = λ k a so. (times.1 k a so).0;
          first = λ one k a so. let few = ap length (part.none (omega (arith, one, number))) in let count = (times.1 k a so).1 in omega arith;
        },
      )
  access_times flight (LookAnswered id found) may =
      let times = times_of flight id [] (made_by id flight) [] (sym (append-nil (made_by id flight))) in
      (times.0, record { slot = may.0; called = may.1; accesses = made_by id flight; done = may.2; made = λ k a so. (times.1 k a so).0 })
  access_times flight (Called id requests) may = ((λ _. 0), tt)
  access_times flight (LookCalled id slot) may = ((λ _. 0), tt)
  access_times flight (Freed id) may = ((λ _. 0), tt)
  access_times flight (FileClosed file) may = ((λ _. 0), tt)
  access_times flight AllSettled may = ((λ _. 0), tt)
