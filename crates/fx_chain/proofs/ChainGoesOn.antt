-- A chain goes on by one member, which is played or canceled.
use Rattle.fx_chain.proofs.Words.{◌≡◌, ℕ, ◌+◌, ◌<◌, ◌≤◌, List, [], ◌∷◌, ◌++◌, length, take, drop, slice_index_or, sym, ap, ◌∙◌, length-map, map_more}
use Rattle.fx_chain.proofs.Words.{length-take-le, drop_more, drop_all, take_all, take-map, drop-map, asked_of, all_asked, Request, suc, Bool, false}
use Rattle.fx_chain.proofs.Words.{◌||◌, refl, inl, inr, append_assoc, length-append, arith, MatchBool-at_true, MatchBool-at_false, append-nil, Action}
use Rattle.fx_chain.proofs.Words.{cases_Bool, sum_by-append, sum_by-cons, MatchBool, FileEntry, ◌▷▷◌, Opening, Completed, next_member, refusal, Asked}
use Rattle.fx_chain.proofs.Words.{Explains, AnswersAfter, canceled, severs, PlayerView, AnswersNext, PlaysMembers, Place, sum_by, ECANCELED}
use Rattle.std.proofs.Math.Bool.{or-false}
use Rattle.fx_chain.proofs.ActsInTurn.{so_then}
use Rattle.fx_chain.proofs.Cases.{either_case}

pub asked_more : (requests : List Request) (i : ℕ) (x : Request) → i < length requests → x ≡ slice_index_or requests i x
    → all_asked (take (i + 1) requests) ≡ all_asked (take i requests) ++ asked_of x ∷ []
asked_more requests i x lt is = map_more asked_of requests i x lt ∙ ap (λ y. all_asked (take i requests) ++ asked_of y ∷ []) (sym is)

pub asked_rest : (requests : List Request) (i : ℕ) (x : Request) → i < length requests → x ≡ slice_index_or requests i x
    → all_asked (drop i requests) ≡ asked_of x ∷ all_asked (drop (i + 1) requests)
asked_rest requests i x lt is = ap all_asked (drop_more requests i x lt) ∙ ap (λ y. asked_of y ∷ all_asked (drop (i + 1) requests)) (sym is)

pub asked_length : (requests : List Request) (i : ℕ) → i ≤ length requests → length (all_asked (take i requests)) ≡ i
asked_length requests i le = length-map (take i requests) asked_of ∙ length-take-le i requests le

pub asked_all : (requests : List Request) (i : ℕ) → length requests ≤ i → all_asked (take i requests) ≡ all_asked requests
asked_all requests i le = ap all_asked (take_all i requests le)

pub asked_none : (requests : List Request) (i : ℕ) → length requests ≤ i → all_asked (drop i requests) ≡ []
asked_none requests i le = ap all_asked (drop_all i requests le)

-- a part of the list of requests is a part of what contracts see
pub asked_part : (requests : List Request) (first len : ℕ) → all_asked (take len (drop first requests)) ≡ take len (drop first (all_asked requests))
asked_part requests first len = sym (take-map asked_of len (drop first requests)) ∙ ap (take len) (sym (drop-map asked_of first requests))

-- A chain goes on by one member, which is played or canceled.

-- one of the members severs the chain
abbrev pub any_severs : List Asked → List Completed → Bool
any_severs [] cs = false
any_severs (request ∷ requests) [] = false
any_severs (request ∷ requests) (c ∷ cs) = severs request c || any_severs requests cs

either : {P Q : Type 0} (b : Bool) → P → Q → MatchBool b P Q
either b p q = grind arith

canceled_more : (place : Place) (requests : List Asked) (r : Asked) (n : ℕ) → n ≡ place.member + length requests
    → canceled place (requests ++ r ∷ []) ≡ canceled place requests ++ refusal (record place { member = n }) ECANCELED ∷ []
canceled_more place [] r n is = let same : n ≡ place.member = omega arith in rw same
canceled_more place (x ∷ requests) r n is = grind (arith, canceled_more (next_member place) requests r n)

-- each member that was canceled has a completion
pub canceled_count : (place : Place) (requests : List Asked) → length (canceled place requests) ≡ length requests
canceled_count place [] = refl
canceled_count place (x ∷ requests) = ap suc (canceled_count (next_member place) requests)

module _ (catalogue : List FileEntry) (size : ℕ) where
  -- a chain has as many completions as members
  pub explained_count : (place : Place) (requests : List Asked) (events : List Action) (cs : List Completed)
      → Explains catalogue size place requests events cs → length cs ≡ length requests
  explained_count place [] events cs (none, nobody) = ap length nobody
  explained_count place (x ∷ requests) events cs (own, others, c, rest, is, cs_is, answers, goes) =
      grind (arith, either_case, canceled_count, explained_count (next_member place) requests others rest)

  -- the next member is performed if no earlier member severed the chain, and canceled otherwise
  pub explains_next : (place : Place) (requests : List Asked) (r : Asked) (events own : List Action) (cs : List Completed) (c : Completed) (n : ℕ)
      → n ≡ place.member + length requests → Explains catalogue size place requests events cs
      → AnswersAfter catalogue size (record place { member = n }) (any_severs requests cs) r own c
      → Explains catalogue size place (requests ++ r ∷ []) (events ▷▷ own) (cs ++ c ∷ [])
  explains_next place [] r events own cs c n n_is (none, nobody) answers =
      let same : n ≡ place.member = omega arith in
      (own, [], c, [], rw (none, append-nil), rw nobody, rw same at answers, either (severs r c) (refl, refl) (refl, refl))
  explains_next place (x ∷ requests) r events own cs c n n_is (first, others, d, rest, is, cs_is, front, goes) answers =
      let here = rw cs_is at answers in (
        first,
        others ▷▷ own,
        d,
        rest ++ c ∷ [],
        rw (is, append_assoc),
        rw cs_is,
        front,
        elim (cases_Bool (severs x d)) [
          | inl stops ↦
              let ended = MatchBool-at_true _ _ stops goes in
              let refused = rw stops at here in
              rw stops (
                rw (ended.0, append-nil) refused.0,
                (λ k. ended.1 k ++ refused.1 k ∷ []) ∙ sym (canceled_more (next_member place) requests r n (omega arith)),
              )
          | inr on ↦ rw on
              (explains_next (next_member place) requests r others own rest c n (omega arith) (MatchBool-at_false _ _ on goes) (rw on at here))
        ],
      )

pub any_severs-push : (requests : List Asked) (cs : List Completed) (r : Asked) (c : Completed) → length cs ≡ length requests
    → any_severs (requests ++ r ∷ []) (cs ++ c ∷ []) ≡ (any_severs requests cs || severs r c)
any_severs-push [] [] r c count = or-false (severs r c)
any_severs-push (x ∷ requests) (d ∷ cs) r c count = grind (arith, any_severs-push requests cs r c)
any_severs-push _ _ r c count = absurd (omega arith)

-- the next member is answered
pub answers_next : (o : Opening) (catalogue : List FileEntry) (place : Place) (requests : List Asked) (r : Asked) {p q next : PlayerView}
    (cs : List Completed) (c : Completed) (n : ℕ) → n ≡ place.member + length requests → PlaysMembers o catalogue place requests p cs q
    → AnswersNext o catalogue (record place { member = n }) (any_severs requests cs) r q c next
    → PlaysMembers o catalogue place (requests ++ r ∷ []) p (cs ++ c ∷ []) next
answers_next o catalogue place requests r cs c n is done own = grind (arith, length-append, sum_by-append, so_then, explains_next)

-- the requests from a place on, as contracts see them
abbrev pub asked_from : List Request → ℕ → List Asked
asked_from requests i = all_asked (drop i requests)

-- their weight is that of the first one plus that of the later ones
pub weighs_from : (weigh : Asked → ℕ) (requests : List Request) (i : ℕ) (x : Request) → i < length requests → x ≡ slice_index_or requests i x
    → sum_by weigh (asked_from requests i) ≡ weigh (asked_of x) + sum_by weigh (asked_from requests (i + 1))
weighs_from weigh requests i x inside is = grind (arith, asked_rest, sum_by-cons)
