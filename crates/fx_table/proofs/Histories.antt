-- Histories continued by one pass or by others, and those of all passes.
use Rattle.fx_table.proofs.Words.{◌≡◌, ◌≢◌, ℕ, List, [], ◌∷◌, ◌++◌, map, refl, ap, ◌∙◌, eq-eqb, ne_eqb, Contains, map-append, State, held_by, IsLegal}
use Rattle.fx_table.proofs.Words.{part_of_pass, ◌▷▷◌, Event, Action, ◌<◌, ◌≤◌, true, sym, None, sum_by, Contains-append_right, Contents, state_of}
use Rattle.fx_table.proofs.Words.{IsSeenBy, ClosesTable, times_drawn, Opening, PassView, IsFront, filter-append, Leads, action_of, held_after, arith}
use Rattle.fx_table.proofs.Words.{AllReleaseTheirOwn, IsSettled, start_of, state_at, HasSameFiles, leads_then}
use Rattle.fx_table.proofs.SumLemmas.{contains_head, contains_tail, contains_map, contains_only}
use Rattle.fx_table.specs.Settling.{IsSettledSoFar}

part_none : (q : ℕ) (es : List Event) → ((e : Event) → Contains es e → e.pass ≢ q) → part_of_pass q es ≡ []
part_none q [] n = refl
part_none q (e ∷ es) n = rw (ne_eqb e.pass q (n e (contains_head e es))) (part_none q es (λ x i. n x (contains_tail e es x i)))

-- events of other passes are not in a pass's part
pub part_other : (q : ℕ) (es h : List Event) → ((e : Event) → Contains es e → e.pass ≢ q) → part_of_pass q (h ▷▷ es) ≡ part_of_pass q h
part_other q es h n = filter-append _ es h ∙ ap (λ (l : List Event). l ++ part_of_pass q h) (part_none q es n)

-- the part of a pass is the whole list, if no other pass has an event there
pub part_all : (q : ℕ) (es : List Event) → ((e : Event) → Contains es e → e.pass ≡ q) → part_of_pass q es ≡ es
part_all q [] a = refl
part_all q (e ∷ es) a = rw (eq-eqb e.pass q (a e (contains_head e es)))
    (ap (λ (l : List Event). e ∷ l) (part_all q es (λ x i. a x (contains_tail e es x i))))

-- the events of a pass are its part
pub part_mine : (q : ℕ) (es h : List Event) → ((e : Event) → Contains es e → e.pass ≡ q) → part_of_pass q (h ▷▷ es) ≡ part_of_pass q h ▷▷ es
part_mine q es h a = filter-append _ es h ∙ ap (λ (l : List Event). l ++ part_of_pass q h) (part_all q es a)

-- events of other passes don't change what a pass holds
pub held_other : (q : ℕ) (es h : List Event) → ((e : Event) → Contains es e → e.pass ≢ q) → held_by (h ▷▷ es) q ≡ held_by h q
held_other q [] h n = refl
held_other q (e ∷ es) h n = rw (ne_eqb e.pass q (n e (contains_head e es))) (held_other q es h (λ x i. n x (contains_tail e es x i)))

-- the file that a pass holds after one more action of its own
pub held_mine : (q c : ℕ) (a : Action) (h : List Event) → held_by (record { pass = q; chain = c; action = a } ∷ h) q ≡ held_after (held_by h q) a
held_mine q c a h = rw (eq-eqb q q refl)

-- a legal history, continued
pub legal_then : (first mid last : State) (es h : List Event) → IsLegal first h mid → Leads mid (map action_of es) last
    → AllReleaseTheirOwn (h ▷▷ es) → IsLegal first (h ▷▷ es) last
legal_then first mid last es h legal leads own = record {
  leads = rw map-append (leads_then first mid last (map action_of h) (map action_of es) legal.leads leads);
  releases = own;
}

-- the author of a pass's actions for one chain
pub one_author : (p chain : ℕ) (actions : List Action) (e : Event)
    → Contains (map (λ action. record { pass = p; chain = chain; action = action }) actions) e → e.pass ≡ p
one_author p chain actions e h = ap (λ (z : Event). z.pass) (contains_map _ actions e h).2

-- The history of all passes, which a close yields, and that of a table with one pass before its
-- close.

-- the contract of a close, except for the table that is returned
pub record IsWhole (o : Opening) (history : List Event) (passes : List PassView) : Type 0 where
  pub legal : IsLegal (start_of o) history (state_at o history)
  pub settled : IsSettled (state_at o history)
  pub seen : (v : PassView) → Contains passes v → IsSeenBy v.front history
  pub own : (v : PassView) → Contains passes v → part_of_pass v.number history ≡ v.own
  pub authors : (e : Event) → Contains history e → (v : PassView) × Contains passes v × (e.pass ≡ v.number)
  pub chains_inside : (v : PassView) → Contains passes v → (c : ℕ) → Contains v.drawn c → (0 < c) × (c ≤ o.chains)
  pub drawn_once : (c : ℕ) → sum_by (times_drawn c) passes ≤ 1
  pub all_drawn : ((v : PassView) → Contains passes v → v.no_chains_left ≡ true)
      → (c : ℕ) → 0 < c → c ≤ o.chains → (v : PassView) × Contains passes v × Contains v.drawn c

pub closes_table : (o : Opening) (h : List Event) (passes : List PassView) (left : Contents) → IsWhole o h passes
    → HasSameFiles (state_at o h) (state_of left) → IsSettled (state_of left) → ClosesTable o passes left
closes_table o h passes left whole same at_rest = grind arith

-- a history with events of one pass only is that pass's own
pub own_history : (v : PassView) (h : List Event) → ((e : Event) → Contains h e → (w : PassView) × Contains (v ∷ []) w × (e.pass ≡ w.number))
    → part_of_pass v.number h ≡ v.own → h ≡ v.own
own_history v h authors own =
    sym (part_all v.number h (λ e i. let a = authors e i in a.2 ∙ ap (λ (w : PassView). w.number) (contains_only v a.0 a.1))) ∙ own

-- a table of one pass, which holds nothing
module _ (o : Opening) (v : PassView) (h : List Event) (whole : IsWhole o h (v ∷ [])) (front : IsFront o v)
    (free : held_by h v.number ≡ None) where
  is_own : h ≡ v.own
  is_own = own_history v h whole.authors (whole.own v (contains_head v []))

  author : (e : Event) → Contains v.front e → e.pass ≡ v.number
  author e i =
      let seen = whole.seen v (contains_head v []) in
      let a = whole.authors e (rw seen.1 (Contains-append_right seen.0 v.front e i)) in grind (arith, contains_only)

  pub settles : IsSettledSoFar o v
  settles = record {
    whole = sym (part_all v.number v.front author) ∙ front.mine;
    legal = rw is_own at whole.legal;
    settled = rw is_own at whole.settled;
    held = rw is_own at free;
    chains_inside = whole.chains_inside v (contains_head v []);
  }
