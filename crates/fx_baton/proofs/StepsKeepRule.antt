-- A step of one seat keeps the rule: the counts of its pass's activity.
use Rattle.fx_baton.proofs.Words.{◌≡◌, ℕ, ◌+◌, ◌≤◌, Bool, true, false, cond, List, [], ◌∷◌, ap, arith, eqb, ◌⊎◌, Some, Contains, File, Event, Task}
use Rattle.fx_baton.proofs.Words.{Log, file_in_hand, holds_by, removals_by, changed_at, ◌≢◌, ◌<◌, set, sym, refl, ◌∙◌, subst, inl, inr, ⊎_elim, some}
use Rattle.fx_baton.proofs.Words.{get_elem?, sum_by, at_set, set_else, Contents, state_of, leaving, IsTable, IsLegal, ◌▷▷◌, pass_of_number, HasFile}
use Rattle.fx_baton.proofs.Words.{seen_further, part_other, held_other, sum_set, sum_at, View, Start, Shared, begin_of, leaving_count, IsLog, IsView}
use Rattle.fx_baton.proofs.Words.{IsHome, IsAway, IsKept, Grows, HasSeen, not_there, seats, stepped}
use Rattle.fx_baton.proofs.Passing.{ends_there}

-- a flag that is set at a number, or taken back
pub flag_set : (f : ℕ → Bool) {g : ℕ → Bool} {q : ℕ} (n : ℕ) → g ≡ changed_at f q true → f q ≡ false
    → cond {A = ℕ} (g n) 1 0 ≡ cond {A = ℕ} (f n) 1 0 + cond {A = ℕ} (eqb q n) 1 0
flag_set f n set is = let a = ap (λ (z : ℕ → Bool). z n) set in grind arith

pub flag_back : (f : ℕ → Bool) {g : ℕ → Bool} {q : ℕ} (n : ℕ) → g ≡ changed_at f q false → f q ≡ true
    → cond {A = ℕ} (g n) 1 0 + cond {A = ℕ} (eqb q n) 1 0 ≡ cond {A = ℕ} (f n) 1 0
flag_back f n back is = let a = ap (λ (z : ℕ → Bool). z n) back in grind arith

pub one_true : {b : Bool} → 1 ≤ cond {A = ℕ} b 1 0 → b ≡ true
one_true l = grind arith

-- a file with which a pass has to do is counted among the held or among the leaving ones
pub hand_is_counted : (d : Task) {f : File} → file_in_hand d ≡ Some f → (1 ≤ holds_by f.number d) ⊎ (1 ≤ removals_by f.number d)
hand_is_counted d e = grind arith

pub holds_small : (n : ℕ) (d : Task) → holds_by n d ≤ 1
holds_small n d = grind arith

-- A step of one seat keeps the rule.
module _ (k : Start) (s : Shared) (r : IsKept k s) (id : ℕ) (v : View) (at : get_elem? s.views id ≡ some v) (w : View)
    (c : Contents) (es : List Event) (words : List ℕ) (homes : List (mathlib.Core.Option.Option Contents)) where
  abbrev next : Shared
  next = record { words = words; homes = homes; views = set s.views id w }

  abbrev longer : List Event
  longer = r.history ▷▷ es

  -- The obligations of the step of a seat with one pass: the seat's new view, the new events, that
  -- files which others hold or retire stay, and that the others' numbers stay fresh
  pub record Turns : Type 0 where
    pub log : Log
    pub one : v.logs ≡ log ∷ []
    pub now : Log
    pub one_now : w.logs ≡ now ∷ []
    pub number : now.number ≡ log.number
    pub start : w.start ≡ v.start
    pub known : w.known ≡ v.known
    pub seen : HasSeen seats longer now
    pub authors : (e : Event) → Contains es e → e.pass ≡ log.number
    pub legal : IsLegal (begin_of k) longer (state_of c)
    pub sound : IsTable c
    pub place : IsHome c next ⊎ IsAway c longer next
    pub mine : IsView k longer c w
    pub held : (n : ℕ) → (state_of c).holds n + holds_by n v.doing ≡ (state_of r.contents).holds n + holds_by n w.doing
    pub leaves : (n : ℕ) → leaving_count c n + removals_by n v.doing ≡ leaving_count r.contents n + removals_by n w.doing
    pub files : (f : File) → HasFile (state_of r.contents) f → (0 < (state_of c).holds f.number) ⊎ (leaving c f.number ≡ true)
        → HasFile (state_of c) f
    pub others : (n : ℕ) → pass_of_number k.passes n ≢ log.number → (state_of r.contents).fresh n ≡ true → (state_of c).fresh n ≡ true

  module _ (t : Turns) where
    foreign : {q : ℕ} → t.log.number ≢ q → (e : Event) → Contains es e → e.pass ≢ q
    foreign other e i same = other (sym (t.authors e i) ∙ same)

    grows : Grows t.log.number r.history longer
    grows = record {
      seen = λ f seen. seen_further f r.history longer seen (es, refl);
      parts = λ q other. part_other q es r.history (foreign other);
      helds = λ q other. held_other q es r.history (foreign other);
    }

    other_log : {i : ℕ} {u : View} → i ≢ id → get_elem? s.views i ≡ some u → (y : Log) → Contains u.logs y → IsLog k longer c u.doing y
    other_log {i} {u} n e y hy =
        let a = (r.views i u e).logs y hy in let other : y.number ≢ t.log.number = not_there r.life at t.one n e y hy in grind (arith, grows)

    all_holds : (n : ℕ) → sum_by (λ (z : View). holds_by n z.doing) (set s.views id w) ≡ (state_of c).holds n
    all_holds n = let a = sum_set (λ (z : View). holds_by n z.doing) s.views id v w at in let b = r.held n in let d = t.held n in omega arith

    all_removals : (n : ℕ) → sum_by (λ (z : View). removals_by n z.doing) (set s.views id w) ≡ leaving_count c n
    all_removals n = grind (arith, sum_set)

    still_there : (i : ℕ) (u : View) → i ≢ id → get_elem? s.views i ≡ some u → (f : File) → file_in_hand u.doing ≡ Some f → HasFile (state_of c) f
    still_there i u n e f is =
        let here : get_elem? (set s.views id w) i ≡ some u = set_else s.views id i w n ∙ e in
        let holds : ℕ → View → ℕ = λ m z. holds_by m z.doing in let removals : ℕ → View → ℕ = λ m z. removals_by m z.doing in
        t.files f ((r.views i u e).file f is) (⊎_elim
        (λ one. inl (let a = sum_at (holds f.number) (set s.views id w) i u here in let b = all_holds f.number in omega arith)) (λ one. inr (one_true
        (let a = sum_at (removals f.number) (set s.views id w) i u here in let b = all_removals f.number in omega arith)))
        (hand_is_counted u.doing is))

    pub keeps_rule : IsKept k next
    keeps_rule = record {
      history = longer;
      contents = c;
      life = stepped r.life id at t.one t.one_now t.number t.start t.known grows (ends_there k t.legal) t.seen;
      end = t.legal.leads.1;
      sound = t.sound;
      place = t.place;
      views = λ i u e. ⊎_elim
          (λ (m : (i ≡ id) × (w ≡ u)). subst (IsView k longer c) m.1 t.mine)
          (λ (m : (i ≢ id) × (get_elem? s.views i ≡ some u)). record { logs = other_log m.0 m.1; file = still_there i u m.0 m.1 })
          (at_set s.views id i w u e);
      few = r.few;
      held = all_holds;
      leaves = all_removals;
    }
