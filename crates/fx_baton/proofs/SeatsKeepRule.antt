-- The rule holds when a table is opened, and where passes move between seats; the passes that are
-- dealt out.
use Rattle.fx_baton.proofs.Words.{◌≡◌, ℕ, ◌<◌, ◌≤◌, Bool, true, false, cond, List, [], ◌∷◌, sym, refl, ap, ◌∙◌, subst, arith, inl, ⊎_elim, some}
use Rattle.fx_baton.proofs.Words.{get_elem?, Some, None, State, Contents, state_of, IsTable, is_leaving, node_at, removed_at, Node, numbers_for, Idle}
use Rattle.fx_baton.proofs.Words.{Log, View, Start, IsKept, IsLog, IsView, leaving_count, begin_of, contains_map, Splits, Joins, Task, Shared}
use Rattle.fx_baton.proofs.Words.{holds_by, removals_by, file_in_hand, TableId, Seat, new_pass, BatonPass, Seated, first_own, view_of, is_idle}
use Rattle.fx_baton.proofs.Words.{IsPassOf, dealt, IsNewPass, IsAnew, seats, HasLaws, Moves, first_alone, first_view, without_first, IsRule}
use Rattle.fx_baton.proofs.Words.{alone_is_dealt, seats_join, seats_split, seats_open, seats_reseated, joined, spent, table_opening}
use Rattle.fx_seen.proofs.Views.{of_one}
use Rattle.std.specs.List.{range_with_len}

pub laws : HasLaws seats
laws = grind arith

-- a table without removed files has none that is leaving
not_leaving : (number : ℕ) (node : Node) → removed_at number node ≡ None → is_leaving node ≡ false
not_leaving number node e = grind arith

module _ (k : Start) (c : Contents) (begins : state_of c ≡ begin_of k) (sound : IsTable c) (few : k.passes ≤ 16) where
  fresh_there : {n : ℕ} → 256 ≤ n → n < numbers_for k.chains → (begin_of k).fresh n ≡ true
  fresh_there {n} low high = let size = ap (λ (z : State). z.size) begins in let few = sound.few_slots in grind arith

  opening_view : IsView k [] c (first_view seats k)
  opening_view = record {
    logs =
        λ x h. subst (λ (z : Log). IsLog k [] c Idle z)
        (sym (contains_map (seats.new_log k) (range_with_len 1 k.passes) x h).2) record { held = refl; fresh = λ n low from high its. ap (λ (z : State). z.fresh n) begins ∙ fresh_there low high };
    file = λ f e. let no : None ≡ Some f = e in absurd (cc no);
  }

  opens_one : IsKept k (table_opening (1 ∷ []) (c ∷ []) (first_view seats k))
  opens_one = record {
    history = [];
    contents = c;
    life = seats_open seats laws k;
    end = begins;
    sound = sound;
    place = inl (refl, refl, of_one (λ (v : View). v.loan ≡ None) (first_view seats k) refl);
    views = of_one (IsView k [] c) (first_view seats k) opening_view;
    few = few;
    held = λ n. let a = ap (λ (z : State). z.holds n) begins in omega arith;
    leaves = λ n. let a = not_leaving n (node_at c.nodes n) (ap (λ (z : State). z.removed n) begins) in
        let b : leaving_count c n ≡ 0 = ap (λ (z : Bool). cond {A = ℕ} z 1 0) a in omega arith;
  }

  pub opens : (xs : List Contents) → xs ≡ c ∷ [] → IsKept k (table_opening (1 ∷ []) xs (first_view seats k))
  opens xs e = subst (λ (z : List Contents). IsKept k (table_opening (1 ∷ []) z (first_view seats k))) (sym e) opens_one

-- the rule holds where passes are in other seats that do nothing
module _ (k : Start) (s : Shared) (r : IsKept k s) (views' : List View) (m : Moves seats k r.history s.views views') where
  abbrev New : View → Type 0
  New u = IsAnew seats.logs seats.start k seats.IsIdle s.views u

  new_view : (u : View) → New u → IsView k r.history r.contents u
  new_view u new = record {
    logs = λ x h. let w = new.its x h in
        subst (λ (d : Task). IsLog k r.history r.contents d x) (w.3.0 ∙ sym new.idle.0) ((r.views w.0 w.1 w.2).logs x w.4);
    file = λ f e. let no : None ≡ Some f = sym (ap file_in_hand new.idle.0) ∙ e in absurd (cc no);
  }

  free : (i : ℕ) (u : View) → get_elem? views' i ≡ some u → (get_elem? s.views i ≡ some u → u.loan ≡ None) → u.loan ≡ None
  free i u e old = ⊎_elim (λ (new : New u). new.idle.1) old (m.seats.each i u e)

  reseated : IsKept k record { words = s.words; homes = s.homes; views = views' }
  reseated = record {
    history = r.history;
    contents = r.contents;
    life = seats_reseated r.life m;
    end = r.end;
    sound = r.sound;
    place = grind (arith, free);
    views = λ i u e. ⊎_elim (λ new. new_view u new) (λ old. r.views i u old) (m.seats.each i u e);
    few = r.few;
    held = λ n. m.seats.by_work (λ u. holds_by n u.doing) (λ u idle. ap (holds_by n) idle.0) ∙ r.held n;
    leaves = λ n. m.seats.by_work (λ u. removals_by n u.doing) (λ u idle. ap (removals_by n) idle.0) ∙ r.leaves n;
  }

pub is_rule : IsRule seats IsKept
is_rule = record { history = λ k s r. r.history; life = λ k s r. r.life; moves = reseated }

pub may_split : (k : Start) (id : ℕ) (v : View) → v.doing ≡ Idle → v.loan ≡ None
    → Splits (IsKept k) id v (without_first seats v) (first_alone seats v)
may_split k id v idle free = seats_split is_rule laws k id v (idle, free)

pub may_join : (k : Start) (id : ℕ) (v : View) → v.doing ≡ Idle → v.loan ≡ None → v.start ≡ k → (other : ℕ) (w : View) → w.doing ≡ Idle
    → w.loan ≡ None → Joins (IsKept k) id v other w (joined seats v w) (spent seats)
may_join k id v idle free begun other w w_idle w_free = seats_join is_rule laws k id v (idle, free) begun other w (w_idle, w_free)

-- the pass of a seat that has the first of them
module _ (id : TableId) (k : Start) (p n : ℕ) (low : 1 ≤ p) (high : p ≤ k.passes) (all : n ≡ k.passes) (seat : Seat Contents View) (x : BatonPass)
    (new : IsNewPass seat p n x) (table : seat.table_id ≡ id) (is : seat.me ≡ (first_alone seats (dealt seats k p), [])) where
  me : x.seat.me ≡ (seats.begun k (seats.new_log k p ∷ []), [])
  me = ap (λ (z : Seat Contents View). z.me) new.its_seat ∙ (is ∙ ap (λ (v : View). (v, [])) (alone_is_dealt seats laws k high))

  one_log : x.seat.me.0.logs ≡ seats.new_log k p ∷ []
  one_log = ap (λ (m : Seated). m.0.logs) me

  doing_is : x.seat.me.0.doing ≡ Idle
  doing_is = ap (λ (m : Seated). m.0.doing) me

  is_new : view_of x ≡ new_pass p
  is_new = grind (arith, seats, one_log, first_own, doing_is)

  is_pass : IsPassOf id k x
  is_pass = grind (arith, me, seats, one_log, is_new, is_idle, doing_is)

  pub is_new_pass : IsPassOf id k x × (view_of x ≡ new_pass p)
  is_new_pass = (is_pass, is_new)
