-- A step of a seat with one pass keeps the rule, if it keeps what the step changes.
use Rattle.fx_counted.proofs.Words.{Contains, contains_head, contains_only, ◌≡◌, ℕ, ◌+◌, ◌<◌, ◌≤◌, List, [], ◌∷◌, ◌++◌, map, set, length, sym, refl}
use Rattle.fx_counted.proofs.Words.{ap, ◌∙◌, subst, arith, get_or, Option, None, Some, File, some, get_elem?, Closed, part_of_pass, Event, Action}
use Rattle.fx_counted.proofs.Words.{Use, range_of, event_of, sum_set, SlotAgrees, NodeAgrees, OwnerAgrees, WorkAgrees, LogAgrees, Agrees}
use Rattle.fx_counted.proofs.Words.{ControlCounts, looks, all_looks, DrawsCount, control_place, draw_place, slot_place, node_place, home_place, Sat}
use Rattle.fx_counted.proofs.Words.{Shared, opening_of, slots_of, IsNumber, state_after_all, shown, held_of, Phase, IsInside, Stepped, Change, Log}
use Rattle.fx_counted.proofs.Words.{View, Work, stepped, Act, Valid, carried_after, HasPass, held_by, held_in, PlacesNext, placing, next_in, end_in}
use Rattle.fx_counted.proofs.Words.{spare, HasShape, Start, no_use, ◌▷◌, Allows, IsSeated, ◌≢◌, Between, Holding, file_in, at_set, ⊎_elim, Bool, ◌⊎◌}
use Rattle.fx_counted.proofs.Words.{get_or-set_other, get_or-set_same, changed_at, PlacesAreInside, PlacesAreApart, chain_numbers, owner}
use Rattle.fx_counted.proofs.Words.{retired, length-set, unborn, Grows, grows_none, grows_one, part_mine, each_changed, HasSeen, seats_pass, not_there}
use Rattle.fx_counted.proofs.Words.{of_one, seats, rules, seen_again, seats_step}
use Rattle.fx_counted.proofs.Frames.{IsHistory, Stays, view_stays, busy, owner_stays, slot_same, node_same, control_same, draws_same, SameFile}
use Rattle.fx_counted.proofs.Places.{inside, apart}
use mathlib.Core.Option as maybe

abbrev pub Homes : Type 0
Homes = List (maybe.Option (Option Closed))

abbrev pub word_at : List ℕ → ℕ → ℕ
word_at words place = get_or words place 0

-- a number in its phase, with these words and places, after this history
abbrev pub NodeIn : Start → List ℕ → Homes → List Event → ℕ → Phase → Type 0
NodeIn k words homes h n = NodeAgrees (state_after_all k h) n (looks h n) (word_at words (node_place (slots_of k) n))
    (get_elem? homes (home_place (slots_of k) n))

abbrev pub now : View → Log → Work → Change → View
now v y d c = record v { logs = y ∷ []; work = d; change = c }

-- a pass that has seen the history, after one more step
abbrev pub logged : Log → List Event → ℕ → ℕ → Log
logged x h left looks_left = record x { front = h; numbers_left = left; looks_left = looks_left; steps = x.steps + 1 }

pub shape_kept : {k : Start} {s s' : Shared} → length s'.words ≡ length s.words → length s'.homes ≡ length s.homes → HasShape k s → HasShape k s'
shape_kept words homes a = assumption (words ∙ a.words, homes ∙ a.homes)

module _ (k : Start) (s : Shared) (r : Agrees k s) where
  -- a number in its phase
  pub in_phase : {n : ℕ} → IsNumber k n → {ph : Phase} → r.phase n ≡ ph → NodeIn k s.words s.homes r.history n ph
  in_phase {n} its is = subst (NodeIn k s.words s.homes r.history n) is (r.each_node n its)

  -- the file that is at a slot
  pub seat_in : {slot : ℕ} → slot < slots_of k → {f : File} → (state_after_all k r.history).at slot ≡ Some f
      → IsSeated k (looks r.history) r.phase slot (word_at s.words (slot_place slot)) (Some f)
  seat_in {slot} l is = subst (IsSeated k (looks r.history) r.phase slot (word_at s.words (slot_place slot))) is (r.each_slot slot l).seat

-- a seat with one pass, which makes the next step
pub record Turn : Type 0 where
  pub st : Shared
  pub v : View
  pub r : Agrees v.start st
  pub id : ℕ
  pub x : Log
  pub here : get_elem? st.views id ≡ some v
  pub one : v.logs ≡ x ∷ []

-- the turn of the seat's pass, as a premise of the laws of steps
abbrev pub turn_of : (m : Sat) (x : Log) → m.0.logs ≡ x ∷ [] → (id : ℕ) (st : Shared) → Agrees m.0.start st → get_elem? st.views id ≡ some m.0 → Turn
turn_of m x one id st r here = record { st = st; v = m.0; r = r; id = id; x = x; here = here; one = one }

-- the conclusion of a law: the word at the place becomes `f` of its old value, and the seat sees
-- that value
abbrev pub Made : Turn → List (ℕ × Option Closed) → ℕ → (ℕ → ℕ) → (ℕ → Sat → Type 0) → Type 0
Made turn carried i f told = (w : View) × (a : Act (Option Closed)) × Valid turn.st.homes carried a
    × Agrees turn.v.start (stepped turn.st i (f (word_at turn.st.words i)) turn.id carried w a)
    × told (word_at turn.st.words i) (w, carried_after carried a)

-- a law whose premises are those of the seat's own beginning and of the word's own place
pub by_turn : {k : Start} (slots : ℕ) {id i : ℕ} {m : Sat} {x : Log} (P : Start → Type 0) (place : Start → ℕ) (f : ℕ → ℕ)
    (told : ℕ → ℕ → Sat → Type 0) (has : HasPass k m x) → P k → i ≡ place k
    → ((st : Shared) (r : Agrees m.0.start st) (here : get_elem? st.views id ≡ some m.0) → P m.0.start
    → word_at st.words (place m.0.start) < 18446744073709551616
    → Made (turn_of m x has.1 id st r here) m.1 (place m.0.start) f (told (place m.0.start)))
    → Allows (Agrees k) slots id m i f (told i)
by_turn {k} slots {id} {i} {m} P place f told has its at does =
    subst (λ (k : Start). P k → i ≡ place k → Allows (Agrees k) slots id m i f (told i)) has.0
    (λ its at. subst (λ (i : ℕ). Allows (Agrees m.0.start) slots id m i f (told i)) (sym at) (λ st r deep here fits. does st r here its fits)) its at

module _ (turn : Turn) where
  open turn use {st, v, r, id, x, here, one}

  pub its_log : LogAgrees v.start r.history r.phase v.work x
  its_log = (r.each_view id v here).logs x (subst (λ (l : List Log). Contains l x) (sym one) (contains_head x []))

  -- what it has seen
  pub passed : HasSeen seats r.history x
  passed = seats_pass r.life id here one

  pub its_work : WorkAgrees v.start r.phase id v.work
  its_work = (r.each_view id v here).work

  -- the view after a step that uses no number and no look-up
  abbrev pub went : List Event → Work → Change → View
  went h' d c = now v (logged x h' x.numbers_left x.looks_left) d c

  -- the pass has seen the whole history
  pub sees_now : (h' : List Event) (left looks_left : ℕ) → HasSeen seats h' (logged x h' left looks_left)
  sees_now h' left looks_left = record { seen = seen_again h'; own = refl }

  pub log_now : {h' : List Event} {phase' : ℕ → Phase} {left looks_left : ℕ} {d : Work} → left ≤ x.numbers_left → held_by h' x.number ≡ held_in d
      → PlacesNext v.start (logged x h' left looks_left) d
      → ((n : ℕ) → next_in v.start (logged x h' left looks_left) + placing d ≤ n → n < end_in v.start x → phase' n ≡ spare x.number)
      → LogAgrees v.start h' phase' d (logged x h' left looks_left)
  log_now {h'} {left} fewer held next spares = grind (arith, its_log)

  module _ (y : Log) (d : Work) (c : Change) (h' : List Event) (phase' : ℕ → Phase) (words' : List ℕ) (homes' : Homes) where
    abbrev views' : List View
    views' = set st.views id (now v y d c)

    -- the obligations of a step
    pub record Step : Type 0 where
      pub words : length words' ≡ length st.words
      pub homes : length homes' ≡ length st.homes
      pub number : y.number ≡ x.number
      pub grows : Grows x.number r.history h'
      pub legal : IsHistory v.start h'
      pub slots : (s : ℕ) → s < slots_of v.start → SlotAgrees v.start h' phase' s (word_at words' (slot_place s))
      pub nodes : (n : ℕ) → IsNumber v.start n → NodeIn v.start words' homes' h' n (phase' n)
      pub owners : (n : ℕ) → IsNumber v.start n → OwnerAgrees views' n (phase' n)
      pub no_other : (n : ℕ) → (IsNumber v.start n → ⊥) → (state_after_all v.start h').removed n ≡ None
      pub stays : Stays id x.number r.phase phase'
      -- the files that other seats hold stay the same
      pub keeps : (j : ℕ) (u : View) (f : File) → j ≢ id → get_elem? st.views j ≡ some u → u.work ≡ Between (Holding f)
          → file_in (phase' f.number) ≡ file_in (r.phase f.number)
      pub seen : HasSeen seats h' y
      pub log : LogAgrees v.start h' phase' d y
      pub work : WorkAgrees v.start phase' id d
      pub holds : (n : ℕ) → (state_after_all v.start h').holds n + held_of n v ≡ (state_after_all v.start r.history).holds n + held_of n (now v y d c)
      pub look_ups : all_looks h' + y.looks_left ≡ all_looks r.history + x.looks_left
      pub control : ControlCounts (state_after_all v.start h').at (range_of (opening_of v.start)) views' (word_at words' control_place)
      pub draws : DrawsCount v.start.chains v.start.numbers phase' views' (word_at words' draw_place)

    pub step_kept : Step → Agrees v.start record { words = words'; homes = homes'; views = views' }
    step_kept s = record {
      shape = shape_kept s.words s.homes r.shape;
      history = h';
      phase = phase';
      life = seats_step r.life id here one refl s.number refl refl s.grows s.legal s.seen;
      each_slot = s.slots;
      each_node = s.nodes;
      each_owner = s.owners;
      no_other = s.no_other;
      each_view = λ j u e. ⊎_elim (grind (arith, id, contains_only)) (λ (t : (j ≢ id) × (get_elem? st.views j ≡ some u)).
          view_stays id x.number j t.0 r.phase phase' s.stays s.grows (not_there r.life here one t.0 t.1) (λ f is. s.keeps j u f t.0 t.1 is)
          (r.each_view j u t.1)) (at_set st.views id j (now v y d c) u e);
      holds = λ n. let t = sum_set (held_of n) st.views id v (now v y d c) here in let a = r.holds n in let b = s.holds n in omega arith;
      look_ups = grind (arith, sum_set, here, of_one, one);
      control = s.control;
      draws = s.draws;
    }

  -- the step's result
  pub tells : (carried homes : List (ℕ × Option Closed)) (h' : List Event) (left looks_left : ℕ) (d : Work)
      (c : Change) (actions : List Action) (used : Use) → Grows x.number r.history h' → IsHistory v.start h'
      → part_of_pass x.number h' ≡ map (event_of (shown x v.work)) actions ++ part_of_pass x.number r.history
      → left + used.numbers ≡ x.numbers_left → looks_left + used.looks ≡ x.looks_left → IsInside v.start d
      → Stepped (v, carried) actions used d c (now v (logged x h' left looks_left) d c, homes)
  tells carried homes h' left looks_left d c actions used grows legal own numbers looked inside = grind arith

  -- a step that takes no action, and one that takes this one
  pub tells_none : (carried homes : List (ℕ × Option Closed)) {d : Work} (c : Change) → IsInside v.start d
      → Stepped (v, carried) [] no_use d c (went r.history d c, homes)
  tells_none carried homes {d} c = tells carried homes r.history x.numbers_left x.looks_left d c [] no_use
      (grows_none x.number r.history) r.life.legal refl (omega arith) (omega arith)

  pub tells_one : {a : Action} → IsHistory v.start (event_of (shown x v.work) a ∷ r.history) → (carried homes : List (ℕ × Option Closed)) {d : Work}
      (c : Change) → IsInside v.start d → Stepped (v, carried) ([] ▷ a) no_use d c (went (event_of (shown x v.work) a ∷ r.history) d c, homes)
  tells_one {a} legal carried homes {d} c = tells carried homes (event_of (shown x v.work) a ∷ r.history) x.numbers_left x.looks_left d c
      ([] ▷ a) no_use (grows_one x.number r.history _ refl) legal (part_mine r.history refl) (omega arith) (omega arith)

-- A step on the word and the place of one number, at which no slot changes, and one on the word of
-- one slot. the effect of a step on the number `q` on histories
pub record OneNumber (v : View) (q : ℕ) (h h' : List Event) : Type 0 where
  pub at : (state_after_all v.start h').at ≡ (state_after_all v.start h).at
  pub size : (state_after_all v.start h').size ≡ (state_after_all v.start h).size
  pub fresh : (state_after_all v.start h').fresh ≡ (state_after_all v.start h).fresh
  pub looked : looks h' ≡ looks h
  pub all : all_looks h' ≡ all_looks h
  pub removed : (n : ℕ) → n ≢ q → (state_after_all v.start h').removed n ≡ (state_after_all v.start h).removed n
  pub holds : (n : ℕ) → n ≢ q → (state_after_all v.start h').holds n ≡ (state_after_all v.start h).holds n

pub one_same : (v : View) (q : ℕ) (h : List Event) → OneNumber v q h h
one_same v q h = record { at = refl; size = refl; fresh = refl; looked = refl; all = refl; removed = λ n other. refl; holds = λ n other. refl }

module _ (turn : Turn) where
  open turn use {st, v, r, id, x, here, one}

  pub near : PlacesAreInside (slots_of v.start) (chain_numbers v.start)
  near = inside (slots_of v.start) (chain_numbers v.start) r.shape.slots

  pub far : PlacesAreApart (slots_of v.start) (chain_numbers v.start)
  far = apart (slots_of v.start) (chain_numbers v.start) r.shape.slots

  -- the phase of a number may become this one: the number is the pass's, or its file retired
  abbrev pub MayTurn : ℕ → Phase → Type 0
  MayTurn q ph = (ph ≡ r.phase q) ⊎ (owner (r.phase q) ≡ id + 1) ⊎ (r.phase q ≡ spare x.number) ⊎ ((f : Closed) × (r.phase q ≡ retired f))

  module _ (q : ℕ) (its : IsNumber v.start q) (word' : ℕ) (homes' : Homes) (h' : List Event) (ph : Phase) (d : Work) where
    abbrev i : ℕ
    i = node_place (slots_of v.start) q

    abbrev y : Log
    y = logged x h' x.numbers_left x.looks_left

    abbrev w : View
    w = went turn h' d v.change

    abbrev phase' : ℕ → Phase
    phase' = changed_at r.phase q ph

    wide : i < length st.words
    wide = let a = r.shape.words in let b = near.node q its in omega arith

    word_else : {place : ℕ} → place ≢ i → word_at (set st.words i word') place ≡ word_at st.words place
    word_else {place} other = get_or-set_other st.words i place word' 0 other

    -- the obligations of a step on the number
    pub record NodeStep : Type 0 where
      pub grows : Grows x.number r.history h'
      pub legal : IsHistory v.start h'
      pub told : OneNumber v q r.history h'
      pub homes : length homes' ≡ length st.homes
      pub home_else : (n : ℕ) → IsNumber v.start n → n ≢ q
          → get_elem? homes' (home_place (slots_of v.start) n) ≡ get_elem? st.homes (home_place (slots_of v.start) n)
      pub may : MayTurn q ph
      pub keeps : (j : ℕ) (u : View) (f : File) → j ≢ id → get_elem? st.views j ≡ some u → u.work ≡ Between (Holding f)
          → f.number ≡ q → file_in ph ≡ file_in (r.phase q)
      pub free : (n : ℕ) → n ≢ q → busy v.work ≢ n + 1
      -- the state of the number afterwards, and its owner
      pub node : NodeAgrees (state_after_all v.start h') q (looks r.history q) word' (get_elem? homes' (home_place (slots_of v.start) q)) ph
      pub known : OwnerAgrees (set st.views id w) q ph
      pub held : held_by h' x.number ≡ held_in d
      pub next : PlacesNext v.start x d
      pub spares : (n : ℕ) → next_in v.start x + placing d ≤ n → n < end_in v.start x → changed_at r.phase q ph n ≡ spare x.number
      pub work : WorkAgrees v.start (changed_at r.phase q ph) id d
      pub holds : (n : ℕ) → (state_after_all v.start h').holds n + held_of n v ≡ (state_after_all v.start r.history).holds n + held_of n w

    module _ (s : NodeStep) where
      -- the phases that others rely on stay: those of numbers that are neither the pass's nor
      -- retired
      stays_if : {n : ℕ} {z : Phase} → r.phase n ≡ z → (owner z ≡ id + 1 → ph ≡ z) → (z ≡ spare x.number → ph ≡ z)
          → ((f : Closed) → z ≡ retired f → ph ≡ z) → phase' n ≡ z
      stays_if is owned spared gone = search (rules, each_changed)

      at_is : (slot : ℕ) → (state_after_all v.start h').at slot ≡ (state_after_all v.start r.history).at slot
      at_is slot = ap (λ (g : ℕ → Option File). g slot) s.told.at

      pub node_agrees : Agrees v.start record { words = set st.words i word'; homes = homes'; views = set st.views id w }
      node_agrees = step_kept turn y d v.change h' phase' (set st.words i word') homes' record {
        words = length-set st.words i word';
        homes = s.homes;
        number = refl;
        grows = s.grows;
        legal = s.legal;
        slots = λ slot l. grind (arith, slot_same, word_else, far, at_is, stays_if);
        nodes = λ n has. each_changed (NodeIn v.start (set st.words i word') homes' h') r.phase
            (λ same. rw (same, s.told.looked, get_or-set_same st.words i word' 0 wide) s.node)
            (λ other. node_same (state_after_all v.start r.history) (state_after_all v.start h') n _ _ _ _ _ _
            (ap (λ (g : ℕ → Bool). g n) s.told.fresh) (s.told.removed n other)
            (s.told.holds n other) (ap (λ (g : ℕ → ℕ). g n) s.told.looked) (word_else (far.nodes n q has its other))
            (s.home_else n has other) s.told.size (r.phase n) (λ slot f is there. at_is slot) (r.each_node n has));
        owners = λ n has. each_changed (OwnerAgrees (set st.views id w)) r.phase
            (λ same. rw same s.known) (λ other. owner_stays st.views id v w here n (s.free n other) (r.phase n) (r.each_owner n has));
        no_other = λ n absent. s.told.removed n (λ same. absent (subst (IsNumber v.start) (sym same) its)) ∙ r.no_other n absent;
        stays = grind (arith, stays_if);
        keeps = λ j u f other there is. each_changed (λ m z. file_in z ≡ file_in (r.phase m)) r.phase
            (λ same. s.keeps j u f other there is same ∙ ap (λ (m : ℕ). file_in (r.phase m)) (sym same)) (λ _. refl);
        seen = sees_now turn h' x.numbers_left x.looks_left;
        log = log_now turn (omega arith) s.held s.next s.spares;
        work = s.work;
        holds = s.holds;
        look_ups = let a = s.told.all in omega arith;
        control = control_same st.views id v w here (grind (arith, v)) (word_else (λ same. far.node_and_control q its (sym same))) refl r.control;
        draws = draws_same st.views id v w here one refl refl refl (word_else (λ same. far.node_and_draw q its (sym same)))
            (λ n is. stays_if is (λ o. absurd (omega (arith, o))) (λ o. absurd (cc o)) (λ g o. absurd (cc o))) r.draws;
      }

-- The frame of a step on the word of one slot.
module _ (turn : Turn) (s : ℕ) (inside : s < slots_of turn.v.start) (word' : ℕ) where
  open turn use {st, v, r, id, x, here, one}

  abbrev pub words_now : List ℕ
  words_now = set st.words (slot_place s) word'

  read_else : (place : ℕ) → place ≢ slot_place s → word_at words_now place ≡ word_at st.words place
  read_else place other = get_or-set_other st.words (slot_place s) place word' 0 other

  -- the slot has its new word, and the others keep theirs and their files
  pub slots_now : {h' : List Event} {phase' : ℕ → Phase} → SlotAgrees v.start h' phase' s word' → all_looks r.history ≤ all_looks h'
      → ((i : ℕ) → i < slots_of v.start → i ≢ s
      → ((state_after_all v.start h').at i ≡ (state_after_all v.start r.history).at i) × SameFile v.start r.history h' r.phase phase' i)
      → (i : ℕ) → i < slots_of v.start → SlotAgrees v.start h' phase' i (word_at words_now (slot_place i))
  slots_now slot more others i l = grind (arith, get_or-set_same, read_else)

  pub node_now : (h' : List Event) (homes' : Homes) (ph : Phase) {n : ℕ} → IsNumber v.start n → NodeIn v.start st.words homes' h' n ph
      → NodeIn v.start words_now homes' h' n ph
  node_now h' homes' ph {n} has node = rw (read_else (node_place (slots_of v.start) n) ((far turn).node_and_slot n s inside has)) node

  pub control_now : {at : ℕ → Option File} {range : ℕ × ℕ} {views : List View} → ControlCounts at range views (word_at st.words control_place)
      → ControlCounts at range views (word_at words_now control_place)
  control_now counts = rw (read_else control_place (λ same. (far turn).slot_and_control s (sym same))) counts

  pub draws_now : (h' : List Event) (left looks_left : ℕ) (d : Work) (c : Change) {phase' : ℕ → Phase}
      → ((n : ℕ) → r.phase n ≡ unborn → phase' n ≡ unborn)
      → DrawsCount v.start.chains v.start.numbers phase' (set st.views id (now v (logged x h' left looks_left) d c)) (word_at words_now draw_place)
  draws_now h' left looks_left d c unused = draws_same st.views id v (now v (logged x h' left looks_left) d c) here one refl refl refl
      (read_else draw_place (λ same. (far turn).slot_and_draw s (sym same))) unused r.draws
