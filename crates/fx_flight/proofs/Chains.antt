-- Chains that were done: their answers determine the number of their accesses, and have the
-- members' places.
use Rattle.fx_flight.proofs.Words.{◌≡◌, ℕ, ◌+◌, List, [], ◌∷◌, ◌++◌, length, refl, sym, ap, ◌∙◌, arith, length-append, Completed, next_member}
use Rattle.fx_flight.proofs.Words.{append_assoc, append-nil, suc, take, canceled, severs, Asked, Place, IsChainDone, IsRequestDone, Access, FileEntry}
use Rattle.fx_flight.proofs.Words.{both_ways, either_way, refusal, Bool, true, false}
use Rattle.fx_base.specs.declared.errno.Errno.TheVariants.{ECANCELED}
use Rattle.fx_order.proofs.RequestCases.{counted, request_place}
use Rattle.std.specs.Bool.{MatchBool}

none_left : {X Y : Type 0} (xs : List X) (ys : List Y) (b : Bool) → MatchBool b ((xs ≡ xs) × (ys ≡ ys)) ((xs ≡ xs) × (ys ≡ ys))
none_left xs ys true = (refl, refl)
none_left xs ys false = (refl, refl)

-- the accesses of a chain up to one of its members, whether an earlier one severed it
parts : {P Q S : Type 0} {T : List Access → Type 0} {xs : List Access} (b : Bool) → MatchBool b P Q → (P → (xs ≡ []) × S)
    → (Q → (own : List Access) × (others : List Access) × (xs ≡ own ++ others) × T own)
    → (own : List Access) × (others : List Access) × (xs ≡ own ++ others) × MatchBool b ((own ≡ []) × S) (T own)
parts true given cut on = let y = cut given in ([], [], y.0, (refl, y.1))
parts false given cut on = on given

module _ (catalogue : List FileEntry) (size : ℕ) where
  same_count : (place : Place) (request : Asked) (own other : List Access) (c d : Completed) → c ≡ d
      → IsRequestDone catalogue size place request.operation own c → IsRequestDone catalogue size place request.operation other d
      → length own ≡ length other
  same_count place request own other c d same x y =
      counted catalogue place size request.operation own c x ∙ sym (counted catalogue place size request.operation other c (rw (← same) at y))

  -- a chain's answers determine the number of its accesses
  pub same_length : (place : Place) (requests : List Asked) (one other : List Access) (cs : List Completed)
      → IsChainDone catalogue size place requests one cs → IsChainDone catalogue size place requests other cs → length one ≡ length other
  same_length place [] one other cs x y = ap length x.0 ∙ sym (ap length y.0)
  same_length place (request ∷ requests) one other cs x y =
      let same : x.2 ≡ y.2 = cc (x.5, y.5) in
      let rest : x.3 ≡ y.3 = cc (x.5, y.5) in
      let first : length x.0 ≡ length y.0 = same_count place request x.0 y.0 x.2 y.2 same x.6 y.6 in
      let others : length x.1 ≡ length y.1 = both_ways {R = length x.1 ≡ length y.1} (severs request x.2) (λ s t. ap length s.0 ∙ sym (ap length t.0))
      (λ s t. same_length (next_member place) requests x.1 y.1 x.3 s t) x.7 (rw (← same, ← rest) at y.7) in
      ap length x.4 ∙ (length-append x.0 x.1 ∙ omega (arith, ap length y.4, length-append y.0 y.1))

  canceled_place : (place : Place) (requests : List Asked) (front : List Completed) (c : Completed) (rest : List Completed)
      → canceled place requests ≡ front ++ c ∷ rest → c.place.member ≡ place.member + length front
  canceled_place place [] [] c rest is = absurd (cc)
  canceled_place place [] (d ∷ front) c rest is = absurd (cc)
  canceled_place place (request ∷ requests) [] c rest is = let same : refusal place ECANCELED ≡ c = cc in omega (arith, ap (λ (d : Completed). d.place.member) same)
  canceled_place place (request ∷ requests) (d ∷ front) c rest is =
      let tail : canceled (next_member place) requests ≡ front ++ c ∷ rest = cc in
      omega (arith, canceled_place (next_member place) requests front c rest tail)

  -- an answer is that of the member whose number it has
  pub answer_place : (place : Place) (requests : List Asked) (accesses : List Access) (cs front : List Completed) (c : Completed)
      (rest : List Completed) → IsChainDone catalogue size place requests accesses cs → cs ≡ front ++ c ∷ rest
      → c.place.member ≡ place.member + length front
  answer_place place [] accesses cs [] c rest x is = let none : [] ≡ c ∷ rest = sym x.1 ∙ is in absurd (cc)
  answer_place place [] accesses cs (d ∷ front) c rest x is = let none : [] ≡ d ∷ (front ++ c ∷ rest) = sym x.1 ∙ is in absurd (cc)
  answer_place place (request ∷ requests) accesses cs [] c rest x is =
      let same : x.2 ≡ c = cc (x.5, is) in
      omega (arith, ap (λ (d : Completed). d.place.member) same, ap (λ (p : Place). p.member) (request_place catalogue place size request.operation x.0 x.2 x.6))
  answer_place place (request ∷ requests) accesses cs (d ∷ front) c rest x is =
      let tail : x.3 ≡ front ++ c ∷ rest = cc (x.5, is) in
      either_way {R = c.place.member ≡ place.member + length (d ∷ front)} (severs request x.2)
      (λ _ y. omega (arith, canceled_place (next_member place) requests front c rest (sym y.1 ∙ tail)))
      (λ _ y. omega (arith, answer_place (next_member place) requests x.1 x.3 front c rest y tail)) x.7

  canceled_chain : (place : Place) (requests : List Asked) (front : List Completed) (c : Completed) (rest : List Completed)
      → canceled place requests ≡ front ++ c ∷ rest → c.place.chain ≡ place.chain
  canceled_chain place [] [] c rest is = absurd (cc)
  canceled_chain place [] (d ∷ front) c rest is = absurd (cc)
  canceled_chain place (request ∷ requests) [] c rest is = let same : refusal place ECANCELED ≡ c = cc in sym (ap (λ (d : Completed). d.place.chain) same)
  canceled_chain place (request ∷ requests) (d ∷ front) c rest is =
      let tail : canceled (next_member place) requests ≡ front ++ c ∷ rest = cc in
      canceled_chain (next_member place) requests front c rest tail

  -- an answer has the place of its chain
  pub answer_chain : (place : Place) (requests : List Asked) (accesses : List Access) (cs front : List Completed) (c : Completed)
      (rest : List Completed) → IsChainDone catalogue size place requests accesses cs → cs ≡ front ++ c ∷ rest → c.place.chain ≡ place.chain
  answer_chain place [] accesses cs [] c rest x is = let none : [] ≡ c ∷ rest = sym x.1 ∙ is in absurd (cc)
  answer_chain place [] accesses cs (d ∷ front) c rest x is = let none : [] ≡ d ∷ (front ++ c ∷ rest) = sym x.1 ∙ is in absurd (cc)
  answer_chain place (request ∷ requests) accesses cs [] c rest x is =
      let same : x.2 ≡ c = cc (x.5, is) in
      sym (ap (λ (d : Completed). d.place.chain) same) ∙ ap (λ (p : Place). p.chain) (request_place catalogue place size request.operation x.0 x.2 x.6)
  answer_chain place (request ∷ requests) accesses cs (d ∷ front) c rest x is =
      let tail : x.3 ≡ front ++ c ∷ rest = cc (x.5, is) in
      either_way {R = c.place.chain ≡ place.chain} (severs request x.2)
      (λ _ y. canceled_chain (next_member place) requests front c rest (sym y.1 ∙ tail))
      (λ _ y. answer_chain (next_member place) requests x.1 x.3 front c rest y tail) x.7

  canceled_part : (place : Place) (requests : List Asked) (front : List Completed) (c : Completed) (rest : List Completed)
      → canceled place requests ≡ front ++ c ∷ rest → front ++ c ∷ [] ≡ canceled place (take (length front + 1) requests)
  canceled_part place [] [] c rest is = absurd (cc)
  canceled_part place [] (d ∷ front) c rest is = absurd (cc)
  canceled_part place (request ∷ requests) [] c rest is = let same : refusal place ECANCELED ≡ c = cc in sym (ap (λ d. d ∷ []) same)
  canceled_part place (request ∷ requests) (d ∷ front) c rest is =
      let head : refusal place ECANCELED ≡ d = cc in
      let tail : canceled (next_member place) requests ≡ front ++ c ∷ rest = cc in
      let count : length (d ∷ front) + 1 ≡ suc (length front + 1) = omega arith in
      rw count (λ i. sym head i ∷ canceled_part (next_member place) requests front c rest tail i)

  -- the members of a chain up to the one with an answer, and their accesses
  pub part_done : (place : Place) (requests : List Asked) (accesses : List Access) (cs front : List Completed) (c : Completed)
      (rest : List Completed) → IsChainDone catalogue size place requests accesses cs → cs ≡ front ++ c ∷ rest
      → (own : List Access) × (others : List Access) × (accesses ≡ own ++ others)
      × IsChainDone catalogue size place (take (length front + 1) requests) own (front ++ c ∷ [])
  part_done place [] accesses cs [] c rest x is = let none : [] ≡ c ∷ rest = sym x.1 ∙ is in absurd (cc)
  part_done place [] accesses cs (d ∷ front) c rest x is = let none : [] ≡ d ∷ (front ++ c ∷ rest) = sym x.1 ∙ is in absurd (cc)
  part_done place (request ∷ requests) accesses cs [] c rest x is =
      let same : x.2 ≡ c = cc (x.5, is) in
      let on : MatchBool (severs request c) (([] ≡ []) × ([] ≡ canceled (next_member place) []))
      (IsChainDone catalogue size (next_member place) [] [] []) = none_left {X = Access} {Y = Completed} [] [] (severs request c) in
      (x.0, x.1, x.4, (x.0, [], c, [], sym (append-nil x.0), refl, rw same at x.6, on))
  part_done place (request ∷ requests) accesses cs (d ∷ front) c rest x is =
      let same : x.2 ≡ d = cc (x.5, is) in
      let tail : x.3 ≡ front ++ c ∷ rest = cc (x.5, is) in
      let done : IsRequestDone catalogue size place request.operation x.0 d = rw same at x.6 in
      let count : length (d ∷ front) + 1 ≡ suc (length front + 1) = omega arith in
      let parted : (own : List Access) × (others : List Access) × (x.1 ≡ own ++ others)
      × MatchBool (severs request d) ((own ≡ []) × (front ++ c ∷ [] ≡ canceled (next_member place) (take (length front + 1) requests)))
      (IsChainDone catalogue size (next_member place) (take (length front + 1) requests) own (front ++ c ∷ [])) =
      parts (severs request d) (rw same at x.7)
      (λ y. (y.0, canceled_part (next_member place) requests front c rest (sym y.1 ∙ tail)))
      (λ y. part_done (next_member place) requests x.1 x.3 front c rest y tail) in
      rw count (
        x.0 ++ parted.0,
        parted.1,
        x.4 ∙ (ap (λ l. x.0 ++ l) parted.2 ∙ sym (append_assoc x.0 parted.0 parted.1)),
        (x.0, parted.0, d, front ++ c ∷ [], refl, refl, done, parted.3),
      )
