-- A seat with one pass may try the word, and take the table where it is at home; with the table it
-- may put it back.
use Rattle.fx_baton.proofs.Words.{leaving_count, ◌≡◌, ℕ, ◌≤◌, ◌==◌, List, [], ◌∷◌, length, set, get_or, sym, refl, ap, ◌∙◌, subst, arith, inl, inr}
use Rattle.fx_baton.proofs.Words.{⊎_elim, some, none, get_elem?, None, Contains, step, takes, keeps, set_else, set_again, Contents, state_of, IsLegal}
use Rattle.fx_baton.proofs.Words.{Event, seen_again, contains_none, contains_only, sum_at, sum_le_at, Log, View, Start, Shared, Seated, begin_of}
use Rattle.fx_baton.proofs.Words.{holds_by, removals_by, HasFreshNumbers, IsLog, IsView, IsHome, IsAway, IsKept, Knows, lent_view, Grabs, Allows, ◌≢◌}
use Rattle.fx_baton.proofs.Words.{true, ◌++◌, map, dite, ℕ_discrete, some-injective, Some, gives, at_set, IsTable, IsSeenBy, held_by, ◌▷▷◌, Task}
use Rattle.fx_baton.proofs.Words.{pass_of_number, log_after, view_after, PutsBack, IsTurn, part_mine, set_here, stands_at, none-some, Idle, HasSeen}
use Rattle.fx_baton.proofs.Words.{Option, ◌⊎◌, its_pass, started, seats, set-get_or, contains_alone}
use prog.Atomic.{either}
use Rattle.fx_baton.proofs.StepsKeepRule.{holds_small, Turns, keeps_rule}

-- a seat with one pass
pub only_log : {xs : List Log} {x y : Log} → xs ≡ x ∷ [] → Contains xs y → y ≡ x
only_log {x} {y} e h = contains_only x y (subst (λ (l : List Log). Contains l y) e h)

-- a view holds no more files than it has passes
holds_few : (n : ℕ) (v : View) (xs : List Log) → v.logs ≡ xs → (v.logs ≡ [] → v.doing ≡ Idle) → holds_by n v.doing ≤ length xs
holds_few n v [] e empty = omega (arith, ap (holds_by n) (empty e))
holds_few n v (x ∷ xs) e empty = omega (arith, holds_small n v.doing)

-- a step that changes nothing keeps the rule
unmoved : {k : Start} (s : Shared) (id : ℕ) {v : View} {n : ℕ} → get_elem? s.views id ≡ some v → n ≡ get_or s.words 0 0 → IsKept k s
    → IsKept k record { words = set s.words 0 n; homes = s.homes; views = set s.views id v }
unmoved s id {v} at is r = rw (is, set-get_or s.words 0 0, set_again s.views id v at) r

-- the history leads to the table
pub legal_end : {k : Start} {s : Shared} (r : IsKept k s) → IsLegal (begin_of k) r.history (state_of r.contents)
legal_end r = record { leads = (r.life.legal.leads.0, r.end); releases = r.life.legal.releases }

module _ (k : Start) (id : ℕ) (v : View) (x : Log) (one : v.logs ≡ x ∷ []) where
  room : (s : Shared) (r : IsKept k s) (n : ℕ) → (state_of r.contents).holds n ≤ 16
  room s r n =
      let a = sum_le_at (λ (z : View). holds_by n z.doing) (λ (z : View). length z.logs) s.views (λ i u e. holds_few n u u.logs refl (λ none. ((r.life.seats i u e).empty none).0)) in
      let b = r.held n in let c = r.life.whole in let d = r.few in omega arith

  module _ (s : Shared) (r : IsKept k s) (at : get_elem? s.views id ≡ some v) where
    mine : IsView k r.history r.contents v
    mine = r.views id v at

    log_of : IsLog k r.history r.contents v.doing x
    log_of = mine.logs x (contains_alone one)

    begun : v.start ≡ k
    begun = started one (r.life.seats id v at)

    passed : HasSeen seats r.history x
    passed = its_pass r.life id at one

    knows : Knows v x r.contents r.history
    knows =
        let legal = subst (λ (z : Start). IsLegal (begin_of z) r.history (state_of r.contents)) (sym begun) (legal_end r) in
        let fresh = subst (λ (z : Start). HasFreshNumbers z (state_of r.contents) x) (sym begun) log_of.fresh in
        let holds : (n : ℕ) → holds_by n v.doing ≤ (state_of r.contents).holds n =
        λ n. let a = sum_at (λ (z : View). holds_by n z.doing) s.views id v at in let b = r.held n in omega arith in
        let leaves : (n : ℕ) → removals_by n v.doing ≤ leaving_count r.contents n =
        λ n. let a = sum_at (λ (z : View). removals_by n z.doing) s.views id v at in let b = r.leaves n in omega arith in
        assumption (legal, r.sound, passed, log_of, fresh, mine.file, room s r, holds, leaves)

    -- the view of the seat when its pass has seen the whole history, with this loan
    abbrev pub learned : Option Contents → View
    learned loan = record v { logs = record x { front = r.history } ∷ []; loan = loan }

    -- the pass learns the whole history, and makes no event
    pub learns_all : (loan : Option Contents) (words : List ℕ) (homes : List (mathlib.Core.Option.Option Contents))
        → (let after : Shared = record { words = words; homes = homes; views = set s.views id (learned loan) } in
        IsHome r.contents after ⊎ IsAway r.contents r.history after)
        → Turns k s r id v at (learned loan) r.contents [] words homes
    learns_all loan words homes place = record {
      log = x;
      one = one;
      now = record x { front = r.history };
      one_now = refl;
      number = refl;
      start = refl;
      known = refl;
      seen = record { seen = seen_again r.history; own = passed.own };
      authors = λ e h. absurd (contains_none e h);
      legal = legal_end r;
      sound = r.sound;
      place = place;
      mine = record {
        logs = λ y h. subst (λ (z : Log). IsLog k r.history r.contents v.doing z) (sym (contains_only _ y h))
            record { held = log_of.held; fresh = log_of.fresh };
        file = mine.file;
      };
      held = λ n. refl;
      leaves = λ n. refl;
      files = λ f i _. i;
      others = λ n _ e. e;
    }

    abbrev lent : View
    lent = lent_view v x r.history r.contents

    taken_turns : (home : IsHome r.contents s) → Turns k s r id v at lent r.contents [] (set s.words 0 0) (set s.homes 0 none)
    taken_turns home = learns_all (Some r.contents) (set s.words 0 0) (set s.homes 0 none) (inr record {
      words = ap (λ (l : List ℕ). set l 0 0) home.0;
      homes = ap (λ l. set l 0 none) home.1;
      holder = id;
      view = lent;
      at = set_here s.views id lent (stands_at s.views id v at).0;
      loan = refl;
      whole = λ y h. ap (λ (z : Log). z.front) (contains_only _ y h);
      others = λ i u n e. home.2 i u (sym (set_else s.views id i lent n) ∙ e);
    })

  pub grab_keeps : v.loan ≡ None → Allows (IsKept k) 1 id (v, []) 0 (λ n. either (n == 1) 0 n) (Grabs (step 1 0 1 0 none) (v, []))
  grab_keeps free s r wide at small = ⊎_elim
      (λ (home : IsHome r.contents s).
      let word : get_or s.words 0 0 ≡ 1 = ap (λ (l : List ℕ). get_or l 0 0) home.0 in (
        lent s r at,
        takes 0 r.contents,
        ap (λ l. get_elem? l 0) home.1,
        rw word (keeps_rule k s r id v at (lent s r at) r.contents [] (set s.words 0 0) (set s.homes 0 none) (taken_turns s r at home)),
        inl (
          word,
          λ y e. let both : x ∷ [] ≡ y ∷ [] = sym one ∙ e in let is : x ≡ y = cc both in record {
            contents = r.contents;
            history = r.history;
            knows = subst (λ (z : Log). Knows v z r.contents r.history) is (knows s r at);
            view = ap (λ (z : Log). lent_view v z r.history r.contents) is;
            slots = refl;
          },
        ),
      ))
      (λ (away : IsAway r.contents r.history s).
      let word : get_or s.words 0 0 ≡ 0 = ap (λ (l : List ℕ). get_or l 0 0) away.words in (
        v,
        keeps,
        tt,
        unmoved s id at (rw word) r,
        inr ((λ one_is. omega (arith, one_is, word)), refl),
      ))
      r.place

pub may_exchange : (k : Start) {slots : ℕ} (id : ℕ) {me : Seated} → slots ≡ 1 → me.1 ≡ [] → me.0.loan ≡ None → {x : Log} → me.0.logs ≡ x ∷ []
    → Allows (IsKept k) slots id me 0 (λ n. either (n == 1) 0 n) (Grabs (step slots 0 1 0 none) me)
may_exchange k id {me} s m free {x} one =
    let P : ℕ × List (ℕ × Contents) → Type 0 = λ z. Allows (IsKept k) z.0 id (me.0, z.1) 0 (λ n. either (n == 1) 0 n)
    (Grabs (step z.0 0 1 0 none) (me.0, z.1)) in
    subst P (λ i. (sym s i, sym m i)) (grab_keeps k id me.0 x one free)

-- A seat with one pass that has the table may put it back.
module _ (k : Start) (id : ℕ) (v : View) (x : Log) (one : v.logs ≡ x ∷ []) (c d : Contents) (has : v.loan ≡ Some c) (es : List Event)
    (doing : Task) (sound : IsTable d) (turn : IsTurn v x c d es doing) where
  abbrev w : View
  w = view_after v es doing

  given_one : w.logs ≡ log_after es x ∷ []
  given_one = ap (map (log_after es)) one

  module _ (s : Shared) (r : IsKept k s) (at : get_elem? s.views id ≡ some v) (away : IsAway r.contents r.history s) where
    held_it : id ≡ away.holder
    held_it = dite (ℕ_discrete id away.holder) (λ e. e) (λ n. absurd (none-some c (sym (away.others id v n at) ∙ has)))

    holder : (v.loan ≡ Some r.contents) × ((y : Log) → Contains v.logs y → y.front ≡ r.history)
    holder =
        let is : away.view ≡ v = some-injective away.view v (sym away.at ∙ (ap (get_elem? s.views) (sym held_it) ∙ at)) in
        subst (λ (z : View). (z.loan ≡ Some r.contents) × ((y : Log) → Contains z.logs y → y.front ≡ r.history)) is (away.loan, away.whole)

    same : c ≡ r.contents
    same = let both : Some c ≡ Some r.contents = sym has ∙ holder.0 in cc both

    whole : x.front ≡ r.history
    whole = holder.1 x (contains_alone one)

    same_start : v.start ≡ k
    same_start = started one (r.life.seats id v at)

    longer_is : x.front ▷▷ es ≡ r.history ▷▷ es
    longer_is = ap (λ (l : List Event). l ▷▷ es) whole

    given_turns : Turns k s r id v at w d es (set s.words 0 1) (set s.homes 0 (some d))
    given_turns = let here : IsTurn v x r.contents d es doing = subst (λ (z : Contents). IsTurn v x z d es doing) same turn in record {
      log = x;
      one = one;
      now = log_after es x;
      one_now = given_one;
      number = refl;
      start = refl;
      known = refl;
      seen = record {
        seen = subst (λ (z : List Event). IsSeenBy (x.front ▷▷ es) z) longer_is (seen_again (x.front ▷▷ es));
        own = part_mine x.number es r.history turn.authors ∙ ap (λ (l : List Event). es ++ l) (its_pass r.life id at one).own;
      };
      authors = turn.authors;
      legal = subst (λ (z : Start × List Event). IsLegal (begin_of z.0) z.1 (state_of d)) (λ i. (same_start i, longer_is i)) turn.legal;
      sound = sound;
      place = inl (
        ap (λ (l : List ℕ). set l 0 1) away.words,
        ap (λ l. set l 0 (some d)) away.homes,
        (λ i u e. ⊎_elim
            (λ (m : (i ≡ id) × (w ≡ u)). ap (λ (z : View). z.loan) (sym m.1))
            (λ (m : (i ≢ id) × (get_elem? s.views i ≡ some u)). away.others i u (λ is. m.0 (is ∙ sym held_it)) m.1)
            (at_set s.views id i w u e)),
      );
      mine = record {
        logs = λ y h. let m = only_log given_one h in
            subst (λ (z : Log). IsLog k (r.history ▷▷ es) d doing z) (sym m) record {
              held = ap (λ (z : List Event). held_by z x.number) (sym longer_is) ∙ turn.now;
              fresh = subst (λ (z : Start). HasFreshNumbers z (state_of d) (log_after es x)) same_start turn.fresh;
            };
        file = turn.file;
      };
      held = here.held;
      leaves = here.leaves;
      files = here.files;
      others = λ n. subst (λ (z : Start). pass_of_number z.passes n ≢ x.number → (state_of r.contents).fresh n ≡ true → (state_of d).fresh n ≡ true) same_start
          (here.others n);
    }

  pub give_keeps : Allows (IsKept k) 1 id (v, (0, d) ∷ []) 0 (λ _. 1) (λ _. PutsBack es doing (step 1 0 1 0 none) (v, (0, d) ∷ []) 1)
  give_keeps s r wide at small = ⊎_elim
      (λ (home : IsHome r.contents s). absurd (none-some c (sym (home.2 id v at) ∙ has)))
      (λ (away : IsAway r.contents r.history s). (
        w,
        gives,
        tt,
        keeps_rule k s r id v at w d es (set s.words 0 1) (set s.homes 0 (some d)) (given_turns s r at away),
        (refl, refl),
      ))
      r.place

pub may_store : (k : Start) {slots : ℕ} (id : ℕ) {me : Seated} {v : View} {d : Contents} {es : List Event} {doing : Task} → slots ≡ 1
    → me ≡ (v, (0, d) ∷ [])
    → {x : Log} {c : Contents} → v.logs ≡ x ∷ [] → v.loan ≡ Some c → IsTable d → IsTurn v x c d es doing → Allows (IsKept k) slots id me 0 (λ _. 1)
    (λ _. PutsBack es doing (step slots 0 1 0 none) me 1)
may_store k id {v} {d} {es} {doing} s m {x} {c} one has sound turn =
    let P : ℕ × Seated → Type 0 = λ z. Allows (IsKept k) z.0 id z.1 0 (λ _. 1) (λ _. PutsBack es doing (step z.0 0 1 0 none) z.1 1) in
    subst P (λ i. (sym s i, sym m i)) (give_keeps k id v x one c d has es doing sound turn)
