-- A seat is split off, and one is joined back.
use Rattle.fx_lasting.proofs.{◌≡◌, ℕ, List, sym, refl, ap, ◌∙◌, subst, arith, ⊎_elim, sum_by, WorkAgrees, LogAgrees, Agrees, Shared, Outside, Inside}
use Rattle.fx_lasting.proofs.{Log, Start, View, Work, Idle, Glance, SplitsKeep, JoinsKeep, spent, held_in, if_file, taking, get_elem?, some, set}
use Rattle.fx_lasting.proofs.{set_here, set_else, at_set, stands_at, sum_set, Contains, HasNoFile, ViewAgrees, taken_of, held_of, zero, suc, ◌∷◌, ◌≢◌}
use Rattle.fx_lasting.proofs.{set-set, without_first, seats, joined, first_alone, Moves, busy_alone, busy, owner_map, owner_stays, few_in_range}
use Rattle.fx_lasting.proofs.{counts_same, moved_one, IsRule, may_join, may_split, renewed, seats_reseated}
use Rattle.fx_lasting.proofs.node_lemmas.Choosing.{no_file, no_take, not_busy, holds_none}
use Rattle.fx_lasting.proofs.life_lemmas.Openings.{laws}
use Rattle.fx_lasting.proofs.life_lemmas.Reseating.{reseat}

-- the rule holds where passes are in other seats that do nothing
module _ (k : Start) (s : Shared) (r : Agrees k s) (views : List View) (m : Moves seats k r.history s.views views) where
  by_work : (f : Work → ℕ) → f Idle ≡ 0 → sum_by (λ (u : View). f u.work) views ≡ sum_by (λ (u : View). f u.work) s.views
  by_work f still = m.seats.by_work (λ u. f u.work) (λ u idle. ap f idle.0 ∙ still)

  pub reseated : Agrees k record { words = s.words; homes = s.homes; views = views }
  reseated = reseat k s r views record {
    taken = λ n. by_work (taking n) refl;
    owners = λ n ph. owner_map s.views views n (λ j d is o.
        (o.0, m.seats.others j o.0 o.1 (λ idle. let e : busy d ≡ 0 = ap busy (sym o.2) ∙ (sym (busy_alone o.0.work) ∙ ap busy idle.0) in omega arith), o.2)) ph;
    stocks = λ j u x e has. ⊎_elim (λ new. let w = new.its x has in r.nodes.stocks w.0 w.1 x w.2 w.4) (λ old. r.nodes.stocks j u x old has) (m.seats.each j u e);
    each_view = λ j u e. ⊎_elim (λ new. record {
      logs = λ x h. let w = new.its x h in
          subst (λ (d : Work × Glance). LogAgrees k r.history s.words r.phase r.debt r.deed d.0 d.1 x)
          (λ i. ((w.3.0 ∙ sym new.idle.0) i, (w.3.1 ∙ sym new.idle.1) i)) ((r.holds.views w.0 w.1 w.2).logs x w.4);
      work = subst (WorkAgrees k r.phase j) (sym new.idle.0) tt;
    }) (λ old. r.holds.views j u old) (m.seats.each j u e);
    holds = λ n. by_work (λ d. if_file n (held_in d)) refl;
    life = seats_reseated r.life m;
    counts = counts_same r.range (few_in_range r) record {
      owe = λ f still. m.seats.by_work (λ u. f u.change) (λ u idle. ap f idle.2 ∙ still);
      calm = λ j u g e is. ⊎_elim (λ new. let bad : Inside g ≡ Outside = sym is ∙ new.idle.2 in absurd (cc bad)) (λ old. (j, u, old, is)) (m.seats.each j u e);
      was = λ j u y e has. ⊎_elim (λ new. let w = new.its y has in (w.0, w.1, y, w.2, w.4, refl, refl)) (λ old. (j, u, y, old, has, refl, refl)) (m.seats.each j u e);
    } refl (refl, λ g l. refl);
  }

pub is_rule : IsRule seats Agrees
is_rule = record { history = λ k s r. r.history; life = λ k s r. r.life; moves = reseated }

pub splits_keep : SplitsKeep (without_first seats) (first_alone seats)
splits_keep k id v idle still out = may_split is_rule laws k id v (idle, still, out)

-- a pass that has chosen a node may forget it
module _ (k : Start) (s : Shared) (r : Agrees k s) (id : ℕ) (v : View) (here : get_elem? s.views id ≡ some v) (free_of : HasNoFile v.work) where
  abbrev forgot : View
  forgot = record v { work = Idle }

  abbrev views' : List View
  views' = set s.views id forgot

  its_log : (x : Log) → LogAgrees k r.history s.words r.phase r.debt r.deed v.work v.glance x
      → LogAgrees k r.history s.words r.phase r.debt r.deed Idle v.glance x
  its_log x o = grind (arith, no_file, holds_none)

  forgotten : Agrees k record { words = s.words; homes = s.homes; views = views' }
  forgotten = reseat k s r views' record {
    taken = λ n. let t = sum_set (taken_of n) s.views id v forgot here in let e = no_take free_of n in omega arith;
    owners = λ n. owner_stays s.views id v forgot here n (λ bad. let e = not_busy free_of in omega arith);
    stocks = λ j u x e has. ⊎_elim (λ (t : (j ≡ id) × (forgot ≡ u)). r.nodes.stocks id v x here (subst (λ (z : View). Contains z.logs x) (sym t.1) has))
        (λ t. r.nodes.stocks j u x t.1 has) (at_set s.views id j forgot u e);
    each_view = λ j u e. ⊎_elim (λ (t : (j ≡ id) × (forgot ≡ u)).
        subst (λ (z : ℕ × View). ViewAgrees k r.history s.words r.phase r.debt r.deed z.0 z.1) (λ i. (sym t.0 i, t.1 i)) record {
          logs = λ x h. its_log x ((r.holds.views id v here).logs x h);
          work = tt;
        }) (λ t. r.holds.views j u t.1) (at_set s.views id j forgot u e);
    holds = λ n. let t = sum_set (held_of n) s.views id v forgot here in let e = ap (if_file n) (no_file free_of) in omega arith;
    life = renewed r.life id here refl refl refl (λ none. let e = (r.life.seats id v here).empty none in (refl, e.1, e.2));
    counts = counts_same r.range (few_in_range r) (moved_one id forgot here refl (λ y has. (y, has, refl, refl))) refl (refl, λ g l. refl);
  }

-- writes at two places, in the other order
module _ {A : Type 0} where
  set_apart : (l : List A) (i j : ℕ) (a b : A) → i ≢ j → set (set l i a) j b ≡ set (set l j b) i a
  set_apart (x ∷ l) zero zero a b other = absurd (other refl)
  set_apart (x ∷ l) (suc i) (suc j) a b other = ap (λ (m : List A). x ∷ m) (set_apart l i j a b (λ e. other (ap suc e)))
  set_apart _ _ _ a b other = refl

pub joins_keep : JoinsKeep (joined seats) (spent seats)
unfolding forgotten
joins_keep k id v begun free_of still out other w w_free w_still w_out s r at apart there =
    let both = joined seats v w in let spent = spent seats in
    let w_at : get_elem? s.views other ≡ some w = sym (set_else s.views id other both apart) ∙ there in
    let v₁ = forgot k s r id v at free_of in
    let views₁ = set s.views id v₁ in
    let r₁ = forgotten k s r id v at free_of in
    let w_at₁ : get_elem? views₁ other ≡ some w = set_else s.views id other v₁ apart ∙ w_at in
    let w₁ = forgot k _ r₁ other w w_at₁ w_free in
    let views₂ = set views₁ other w₁ in
    let r₂ = forgotten k _ r₁ other w w_at₁ w_free in
    let ne : id ≢ other = λ same. apart (sym same) in
    let at₂ : get_elem? views₂ id ≡ some v₁ = set_else views₁ other id w₁ ne ∙ set_here s.views id v₁ (stands_at s.views id v at).0 in
    let there₂ : get_elem? (set views₂ id both) other ≡ some w₁ =
    set_else views₂ id other both apart ∙ set_here views₁ other w₁ (stands_at views₁ other w w_at₁).0 in
    let same : set (set views₂ id both) other spent ≡ set (set s.views id both) other spent =
    ap (λ (l : List View). set l other spent) (set_apart views₁ other id w₁ both apart)
    ∙ (set-set (set views₁ id both) other w₁ spent ∙ ap (λ (l : List View). set l other spent) (set-set s.views id v₁ both)) in
    subst (λ (l : List View). Agrees k record { words = s.words; homes = s.homes; views = l }) same
    (may_join is_rule laws k id v₁ (refl, still, out) begun other w₁ (refl, w_still, w_out) _ r₂ at₂ apart there₂)
