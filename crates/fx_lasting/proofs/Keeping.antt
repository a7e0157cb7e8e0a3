-- A step of a seat with one pass keeps the rule, if it keeps what the step changes.
pub use Rattle.fx_lasting.proofs.Turns.{Homes, NodeIn, node_in, word_at, LabelSame, labels_same, slot_word, now, logged, met_same, Turn, turn_of, Made, by_turn}
pub use Rattle.fx_lasting.proofs.Turns.{few_in_range}
use Rattle.fx_lasting.proofs.Words.{Contains, contains_head, contains_only, ◌≡◌, ◌≢◌, ℕ, ◌+◌, ◌<◌, ◌≤◌, List, [], ◌∷◌, ◌++◌, map, set, length, sym}
use Rattle.fx_lasting.proofs.Words.{refl, ap, ◌∙◌, subst, arith, Option, inl, some, get_elem?, Closed, part_of_pass, Event, Action, sum_by, sum_set}
use Rattle.fx_lasting.proofs.Words.{Bool, true, ⊎_elim, held_by, IsSeenBy, at_set, SlotAgrees, NodeAgrees, OwnerAgrees, WorkAgrees, LogAgrees}
use Rattle.fx_lasting.proofs.Words.{ViewAgrees, Agrees, RangeCounts, HoldAgrees, GuardAgrees, GlanceAgrees, Heats, IsAllowed, count_in, word_of}
use Rattle.fx_lasting.proofs.Words.{hold_word_of, Shared, slots_of, nodes_of, range_at_start, state_after_all, IsHistory, held_in, held_of, taken_of}
use Rattle.fx_lasting.proofs.Words.{owed, Stepped, IsInside, pass_event, Phase, free, removed_in, Change, Glance, Log, View, Work, IsInStock, name_in}
use Rattle.fx_lasting.proofs.Words.{first_log, Whereabouts, in_stock, NamesItsNode, StockAgrees, ◌⊎◌, list_place, IsListedIn, Deed, untouched, Watch}
use Rattle.fx_lasting.proofs.Words.{changes_in, WatchAgrees, Survey, as_asked, Labels, written_in, MOST_SLOTS, HasSeen, its_pass, its_range}
use Rattle.fx_lasting.proofs.Words.{not_there, seats, AskAlike, CountAlike, counts_same, moved_one, seats_step}
use Rattle.fx_lasting.proofs.Histories.{Grows, grows_none, legal_before}
use Rattle.fx_lasting.proofs.hold_lemmas.Lists.{ListGoesOn, stays_listed, was_listed}
use Rattle.fx_lasting.proofs.slot_lemmas.Watching.{MovesOn, watch_on}

-- as many changes as before
pub found_same : (x : Log) (s : ℕ) → changes_in s x ≤ changes_in s x
found_same x s = met_same (changes_in s x)

module _ (turn : Turn) where
  open turn use {st, v, r, id, x, here, one}

  pub has_x : Contains v.logs x
  has_x = subst (λ (l : List Log). Contains l x) (sym one) (contains_head x [])

  pub its_log : LogAgrees v.start r.history st.words r.phase r.debt r.deed v.work v.glance x
  its_log = (r.holds.views id v here).logs x has_x

  -- what it has seen
  pub passed : HasSeen seats r.history x
  passed = its_pass r.life id here one

  pub its_work : WorkAgrees v.start r.phase id v.work
  its_work = (r.holds.views id v here).work

  pub in_range : (0 < x.number) × (x.number ≤ v.start.passes)
  in_range = its_range r.life id here has_x

  -- the history goes on, and no slot and no removed file changes
  pub record LeavesFiles (h' : List Event) : Type 0 where
    pub grows : Grows x.number r.history h'
    pub legal : IsHistory v.start h'
    pub at : (state_after_all v.start h').at ≡ (state_after_all v.start r.history).at
    pub fresh : (state_after_all v.start h').fresh ≡ (state_after_all v.start r.history).fresh
    pub removed : (state_after_all v.start h').removed ≡ (state_after_all v.start r.history).removed

  pub none_added : LeavesFiles r.history
  none_added = record { grows = grows_none x.number r.history; legal = r.life.legal; at = refl; fresh = refl; removed = refl }

  -- The words, the places and the rule's own names after a step
  pub record After : Type 0 where
    pub h : List Event
    -- what the pass has seen of it
    pub front : List Event
    pub words : List ℕ
    pub homes : Homes
    pub phase : ℕ → Phase
    pub next_number : ℕ
    pub debt : ℕ → ℕ
    pub deed : ℕ → ℕ → Deed
    pub work : Work
    pub glance : Glance
    pub change : Change
    pub asked : Survey
    pub listed : Bool
    pub still_listed : x.listed ≡ true → listed ≡ true
    pub where_is : ℕ → Whereabouts
    pub stock : List ℕ
    pub watch : Watch
    pub more_met : x.watch.met ≤ watch.met
    pub changed : List ℕ
    pub more_changed : (s : ℕ) → changes_in s x ≤ changes_in s (record x { changed = changed })

  -- as they are before the step, of which the pass sees all
  abbrev pub as_it_was : After
  as_it_was = record {
    h = r.history;
    front = r.history;
    words = st.words;
    homes = st.homes;
    phase = r.phase;
    next_number = r.nodes.next_number;
    debt = r.debt;
    deed = r.deed;
    work = v.work;
    glance = v.glance;
    change = v.change;
    asked = x.asked;
    listed = x.listed;
    still_listed = λ l. l;
    where_is = r.nodes.where_is;
    stock = x.stock;
    watch = x.watch;
    more_met = met_same x.watch.met;
    changed = x.changed;
    more_changed = found_same x;
  }

  -- the history goes on, and the pass has seen this part of it
  pub record LifeStep (h' front : List Event) : Type 0 where
    pub grows : Grows x.number r.history h'
    pub legal : IsHistory v.start h'
    pub seen : IsSeenBy front h'
    pub own : part_of_pass x.number h' ≡ part_of_pass x.number front

  -- the pass sees all of it
  pub sees_all : {h' : List Event} → Grows x.number r.history h' → IsHistory v.start h' → LifeStep h' h'
  sees_all grows legal = record { grows = grows; legal = legal; seen = ([], refl); own = refl }

  -- nodes
  pub record NodesStep (h' : List Event) (words' : List ℕ) (homes' : Homes) (views' : List View) (phase' : ℕ → Phase) (next' : ℕ) (debt' : ℕ → ℕ) : Type 0 where
    pub each : (n : ℕ) → n < nodes_of v.start → NodeAgrees (state_after_all v.start h').at (slots_of v.start)
        (λ s. count_in (slot_word words' s)) r.node_of next' n (word_at words' (word_of v.start n))
        (sum_by (taken_of n) views') (owed debt' v.start.passes n) (get_elem? homes' n) (phase' n)
    pub owners : (n : ℕ) → n < nodes_of v.start → OwnerAgrees views' n (phase' n)
    pub labels : (n : ℕ) → n < nodes_of v.start → Labels v.start words' n (written_in (phase' n))
    pub removed : (number : ℕ) → (state_after_all v.start h').removed number ≡ removed_in number (phase' (r.node_of number))
    pub unborn : (n : ℕ) → nodes_of v.start ≤ n → phase' n ≡ free
    pub fresh : (number : ℕ) → next' ≤ number → (state_after_all v.start h').fresh number ≡ true

  -- where the nodes are
  pub record StockStep (words' : List ℕ) (where_is' : ℕ → Whereabouts) (stock' : List ℕ) : Type 0 where
    pub named : (s : ℕ) → s < slots_of v.start → NamesItsNode v.start where_is' s (slot_word words' s)
    pub stock : StockAgrees v.start where_is' x.number stock'
    pub others : (n q entry : ℕ) → q ≢ x.number → r.nodes.where_is n ≡ in_stock q entry → where_is' n ≡ in_stock q entry

  module _ (a : After) where
    abbrev pub its_after : Log
    its_after = record (logged x a.listed a.asked a.stock a.watch a.front) { changed = a.changed }

    abbrev pub w : View
    w = now v its_after a.work a.glance a.change

    abbrev pub views' : List View
    views' = set st.views id w

    abbrev pub end : Shared
    end = record { words = a.words; homes = a.homes; views = views' }

    -- where it wrote back the word that it read
    abbrev pub end_read : ℕ → Shared
    end_read i = record { words = set st.words i (word_at st.words i); homes = st.homes; views = views' }

    -- the pass q of another seat j relies on what is there
    pub record Keeps (j q : ℕ) (d : Work) (g : Glance) : Type 0 where
      pub hold : HoldAgrees (word_at a.words (hold_word_of v.start q)) (a.debt q) d
      pub guarded : GuardAgrees (slot_word a.words) a.phase q (a.debt q) d
      pub sees : GlanceAgrees v.start (slot_word a.words) (λ s. a.deed s q) g
      pub heats : Heats v.start (λ s. a.deed s q) g
      pub work : WorkAgrees v.start a.phase j d

    -- slots
    pub record SlotsStep : Type 0 where
      pub each : (s : ℕ) → s < slots_of v.start
          → SlotAgrees v.start r.node_of a.phase (a.deed s) s ((state_after_all v.start a.h).at s) (slot_word a.words s)
      pub moves : (s : ℕ) → s < slots_of v.start → MovesOn x.number s r.history a.h (slot_word st.words s) (slot_word a.words s)

    -- holds: those of other passes, and of this one
    pub record HoldsStep : Type 0 where
      pub others : (j : ℕ) (u : View) (z : Log) → j ≢ id → get_elem? st.views j ≡ some u → Contains u.logs z → z.number ≢ x.number
          → (0 < z.number) × (z.number ≤ v.start.passes)
          → LogAgrees v.start r.history st.words r.phase r.debt r.deed u.work u.glance z → WorkAgrees v.start r.phase j u.work
          → Keeps j z.number u.work u.glance
      pub its : Keeps id x.number a.work a.glance
      pub held : held_by a.h x.number ≡ held_in a.work
      pub allowed : IsAllowed a.stock a.listed a.work
      pub files : (n : ℕ) → (state_after_all v.start a.h).holds n + held_of n v ≡ (state_after_all v.start r.history).holds n + held_of n w

    -- the list of passes
    pub record ListStep : Type 0 where
      pub words : (p : ℕ) → p ≤ 1024 → ListGoesOn x.number a.listed p (word_at st.words (list_place p)) (word_at a.words (list_place p))
      pub takers : (s q : ℕ) → s < slots_of v.start → a.deed s q ≢ untouched → (r.deed s q ≢ untouched) ⊎ ((q ≡ x.number) × (a.listed ≡ true))
      pub its_bit : a.listed ≡ true → (x.listed ≡ true) ⊎ IsListedIn (word_at a.words (list_place x.number)) x.number

    -- the list is as it was, and no pass takes for the first time
    pub list_untouched : ((p : ℕ) → p ≤ 1024 → word_at a.words (list_place p) ≡ word_at st.words (list_place p))
        → ((s q : ℕ) → a.deed s q ≢ untouched → r.deed s q ≢ untouched) → (a.listed ≡ true → x.listed ≡ true) → ListStep
    list_untouched same took was = record { words = λ p few. inl (same p few); takers = λ s q l is. inl (took s q is); its_bit = λ l. inl (was l) }

    -- what a step has to keep: a record for each machine
    pub record Step : Type 0 where
      pub words : length a.words ≡ length st.words
      pub homes : length a.homes ≡ length st.homes
      pub life : LifeStep a.h a.front
      pub nodes : NodesStep a.h a.words a.homes views' a.phase a.next_number a.debt
      pub stocks : StockStep a.words a.where_is a.stock
      pub slots : SlotsStep
      pub holds : HoldsStep
      pub list : ListStep
      pub range : RangeCounts (state_after_all v.start a.h).at (range_at_start v.start) views' a.words
      pub watch : WatchAgrees v.start a.h a.words x.number a.watch

    module _ (s : Step) where
      other_log : (j : ℕ) (u : View) (z : Log) → j ≢ id → get_elem? st.views j ≡ some u → Contains u.logs z
          → LogAgrees v.start a.h a.words a.phase a.debt a.deed u.work u.glance z
      other_log j u z other there at = let o = (r.holds.views j u there).logs z at in let n = not_there r.life here one other there z at in
          let k = s.holds.others j u z other there at n (its_range r.life j there at) o (r.holds.views j u there).work in
          let few : z.number ≤ 1024 = omega (arith, (its_range r.life j there at).1, r.shape.passes) in
          record {
            held = s.life.grows.helds z.number (λ same. n (sym same)) ∙ o.held;
            allowed = o.allowed;
            list = λ l. stays_listed x.number a.listed z.number (s.list.words z.number few) (o.list l);
            unlisted = λ is. ⊎_elim (λ before. o.unlisted before) (λ same. absurd (n same))
                (was_listed x.number a.listed z.number in_range.0 (its_range r.life j there at).0 (s.list.words z.number few) is);
            hold = k.hold;
            guarded = k.guarded;
            sees = k.sees;
            heats = k.heats;
            takes_listed = λ i l is. ⊎_elim (λ before. o.takes_listed i l before)
                (λ (own : (z.number ≡ x.number) × (a.listed ≡ true)). absurd (n own.0)) (s.list.takers i z.number l is);
            watch = let range = its_range r.life j there at in let mine = in_range in
                watch_on v.start x.number z.number (λ same. n (sym same)) (omega (arith, n, range.0, range.1, mine.0, mine.1)) st.words a.words s.life.grows.seen s.slots.moves z.watch o.watch;
          }

      -- a seat without passes does nothing
      other_work : (j : ℕ) (u : View) → j ≢ id → get_elem? st.views j ≡ some u → WorkAgrees v.start a.phase j u.work
      other_work j u other there = go u.logs refl
        where
          go : (l : List Log) → u.logs ≡ l → WorkAgrees v.start a.phase j u.work
          go [] none = subst (WorkAgrees v.start a.phase j) (sym ((r.life.seats j u there).empty none).0) tt
          go (z ∷ l) is = let at = subst (λ (l : List Log). Contains l z) (sym is) (contains_head z l) in
              (s.holds.others j u z other there at (not_there r.life here one other there z at) (its_range r.life j there at)
              ((r.holds.views j u there).logs z at) (r.holds.views j u there).work).work

      its_own : LogAgrees v.start a.h a.words a.phase a.debt a.deed a.work a.glance its_after
      its_own = let few : x.number ≤ 1024 = omega (arith, in_range.1, r.shape.passes) in record {
        held = s.holds.held;
        allowed = s.holds.allowed;
        list = λ l. ⊎_elim (λ was. stays_listed x.number a.listed x.number (s.list.words x.number few) (its_log.list was)) (λ set. set) (s.list.its_bit l);
        unlisted = λ is. ⊎_elim (λ (same : word_at a.words (list_place x.number) ≡ word_at st.words (list_place x.number)).
            a.still_listed (its_log.unlisted (subst (λ (z : ℕ). IsListedIn z x.number) same is))) (λ set. set.2) (s.list.words x.number few);
        hold = s.holds.its.hold;
        guarded = s.holds.its.guarded;
        sees = s.holds.its.sees;
        heats = s.holds.its.heats;
        takes_listed = λ i l is. ⊎_elim (λ before. a.still_listed (its_log.takes_listed i l before))
            (λ (own : (x.number ≡ x.number) × (a.listed ≡ true)). own.1) (s.list.takers i x.number l is);
        watch = s.watch;
      }

      pub step_kept : Agrees v.start end
      step_kept = record {
        shape = let a = r.shape in assumption (s.words ∙ a.words, s.homes ∙ a.homes);
        history = a.h;
        phase = a.phase;
        node_of = r.node_of;
        numbering = r.numbering;
        debt = a.debt;
        deed = a.deed;
        nodes = record {
          next_number = a.next_number;
          each = s.nodes.each;
          owners = s.nodes.owners;
          labels = s.nodes.labels;
          removed = s.nodes.removed;
          unborn = s.nodes.unborn;
          fresh = s.nodes.fresh;
          where_is = a.where_is;
          named = s.stocks.named;
          stocks = λ j u z e has. ⊎_elim
              (λ (t : (j ≡ id) × (w ≡ u)). let has' : Contains (its_after ∷ []) z =
              subst (λ (y : View). Contains y.logs z) (sym t.1) has in
              subst (λ (y : Log). StockAgrees v.start a.where_is y.number y.stock) (sym (contains_only its_after z has')) s.stocks.stock)
              (λ (t : (j ≢ id) × (get_elem? st.views j ≡ some u)). let o = r.nodes.stocks j u z t.1 has in record {
                its = o.its;
                here = λ entry n is. s.stocks.others n z.number entry (not_there r.life here one t.0 t.1 z has) (o.here entry n is);
              }) (at_set st.views id j w u e);
        };
        slots = s.slots.each;
        holds = record {
          views = λ j u e. ⊎_elim (λ (t : (j ≡ id) × (w ≡ u)).
              subst (λ (z : ℕ × View). ViewAgrees v.start a.h a.words a.phase a.debt a.deed z.0 z.1) (λ i. (sym t.0 i, t.1 i)) record {
                logs = λ z h. subst (LogAgrees v.start a.h a.words a.phase a.debt a.deed a.work a.glance)
                    (sym (contains_only its_after z h)) its_own;
                work = s.holds.its.work;
              }) (λ (t : (j ≢ id) × (get_elem? st.views j ≡ some u)). record {
                logs = λ z h. other_log j u z t.0 t.1 h;
                work = other_work j u t.0 t.1;
              }) (at_set st.views id j w u e);
          files = λ n. let t = sum_set (held_of n) st.views id v w here in let a = r.holds.files n in let b = s.holds.files n in omega arith;
          listed = λ p low high is. ⊎_elim (λ before. r.holds.listed p low high before) (λ same. let z = in_range.1 in omega (arith, same, z))
              (was_listed x.number a.listed p in_range.0 low (s.list.words p high) is);
        };
        range = s.range;
        life = seats_step r.life id here one refl refl refl refl s.life.grows s.life.legal record { seen = s.life.seen; own = s.life.own };
      }

  -- the nodes of the pass's stock
  pub its_stock : StockAgrees v.start r.nodes.where_is x.number x.stock
  its_stock = r.nodes.stocks id v x here has_x

  -- a node of the stock is there
  pub in_its_stock : {n : ℕ} → (s : IsInStock x.stock n) → (n < nodes_of v.start) × (r.nodes.where_is n ≡ in_stock x.number s.0)
  in_its_stock {n} s = (its_stock.its.inside s.0 n s.1, its_stock.here s.0 n s.1)

  -- each node is where it was, if no slot names another one
  pub stocks_untouched : (words' : List ℕ) → ((s : ℕ) → s < slots_of v.start → name_in (slot_word words' s) ≡ name_in (slot_word st.words s))
      → StockStep words' r.nodes.where_is x.stock
  stocks_untouched words' same = grind (arith, its_stock)

  -- the effect of the step on its pass: from one that was listed, had asked and had in stock this
  moved_on : (a : After) (l : Bool) (q : Survey) (s : List ℕ) → ◌≡◌ {A = Bool × Survey × List ℕ} (a.listed, a.asked, a.stock) (l, q, s)
      → (carried homes : List (ℕ × Option Closed)) (actions : List Action) → IsSeenBy x.front a.front → IsHistory v.start a.front
      → part_of_pass x.number a.front ≡ map (pass_event x) actions ++ part_of_pass x.number x.front → IsInside v.start a.work
      → Stepped (record v { logs = record (first_log v.logs) { listed = l; asked = q; stock = s } ∷ [] }, carried) actions a.work a.glance a.change
      (w a, homes)
  moved_on a l q s same carried homes actions seen legal own inside = rw one record {
    one = (its_after a, refl);
    number = refl;
    seen = seen;
    legal = legal;
    own = own;
    steps = omega arith;
    begun = omega arith;
    listed = ap (λ (z : Bool × Survey × List ℕ). z.0) same;
    asked = ap (λ (z : Bool × Survey × List ℕ). z.1) same;
    stock = ap (λ (z : Bool × Survey × List ℕ). z.2) same;
    met = a.more_met;
    changes = a.more_changed;
    work = refl;
    inside = inside;
    glance = refl;
    change = refl;
    start = refl;
  }

  -- a pass that was as it is
  moved_same : (a : After) → ◌≡◌ {A = Bool × Survey × List ℕ} (a.listed, a.asked, a.stock) (x.listed, x.asked, x.stock)
      → (carried homes : List (ℕ × Option Closed)) (actions : List Action) → IsSeenBy x.front a.front → IsHistory v.start a.front
      → part_of_pass x.number a.front ≡ map (pass_event x) actions ++ part_of_pass x.number x.front → IsInside v.start a.work
      → Stepped (v, carried) actions a.work a.glance a.change (w a, homes)
  moved_same a same carried homes actions seen legal own inside =
      subst (λ (z : View). Stepped (z, carried) actions a.work a.glance a.change (w a, homes))
      (λ i. record v { logs = (ap (λ (l : List Log). first_log l ∷ []) one ∙ sym one) i })
      (moved_on a (first_log v.logs).listed (first_log v.logs).asked (first_log v.logs).stock (rw one same) carried homes actions seen legal own inside)

  -- the pass saw the whole history, and took these actions
  pub tells : (a : After) → ◌≡◌ {A = Bool × Survey × List ℕ} (a.listed, a.asked, a.stock) (x.listed, x.asked, x.stock) → (carried homes : List (ℕ × Option Closed)) (actions : List Action) → Grows x.number r.history a.front
      → IsHistory v.start a.front → part_of_pass x.number a.front ≡ map (pass_event x) actions ++ part_of_pass x.number r.history
      → IsInside v.start a.work → Stepped (v, carried) actions a.work a.glance a.change (w a, homes)
  tells a same carried homes actions grows legal own = moved_same a same carried homes actions (grows.seen x.front passed.seen) legal
      (own ∙ ap (λ (l : List Event). map (pass_event x) actions ++ l) passed.own)

  -- and it was listed, had asked and had in stock this
  pub tells_as : (a : After) (l : Bool) (q : Survey) (s : List ℕ) → ◌≡◌ {A = Bool × Survey × List ℕ} (a.listed, a.asked, a.stock) (l, q, s)
      → (carried homes : List (ℕ × Option Closed)) (actions : List Action) → Grows x.number r.history a.front → IsHistory v.start a.front
      → part_of_pass x.number a.front ≡ map (pass_event x) actions ++ part_of_pass x.number r.history → IsInside v.start a.work
      → Stepped (record v { logs = record (first_log v.logs) { listed = l; asked = q; stock = s } ∷ [] }, carried) actions a.work a.glance a.change
      (w a, homes)
  tells_as a l q s same carried homes actions grows legal own = moved_on a l q s same carried homes actions (grows.seen x.front passed.seen) legal
      (own ∙ ap (λ (l : List Event). map (pass_event x) actions ++ l) passed.own)

  -- it has asked otherwise
  pub tells_asked : (a : After) → ◌≡◌ {A = Bool × List ℕ} (a.listed, a.stock) (x.listed, x.stock) → (carried : List (ℕ × Option Closed)) → Grows x.number r.history a.front
      → IsHistory v.start a.front → part_of_pass x.number a.front ≡ part_of_pass x.number r.history → IsInside v.start a.work
      → Stepped (as_asked a.asked (v, carried)) [] a.work a.glance a.change (w a, carried)
  tells_asked a same carried =
      tells_as a (first_log v.logs).listed a.asked (first_log v.logs).stock (rw one (λ i. ((same i).0, a.asked, (same i).1))) carried carried []

  -- the pass has asked what it had asked
  pub asks_alike : (a : After) → a.asked ≡ x.asked → AskAlike (λ (u : View). u.logs) (λ (y : Log). y.number) (λ (y : Log). y.asked) (w a) v
  asks_alike a same y has = grind (arith, contains_only, has_x)

  pub few_slots : (range_at_start v.start).1 ≤ MOST_SLOTS
  few_slots = few_in_range r

  -- the range agrees after a step that changes neither its words nor what the pass counts and asks
  pub range_left : (a : After) → (state_after_all v.start a.h).at ≡ (state_after_all v.start r.history).at → CountAlike a.words st.words
      → a.change ≡ v.change → a.asked ≡ x.asked → RangeCounts (state_after_all v.start a.h).at (range_at_start v.start) (views' a) a.words
  range_left a at alike change asked = counts_same r.range few_slots (moved_one id (w a) here change (asks_alike a asked)) at alike

  -- the effect of a step after which the pass has seen what it had seen
  pub tells_less : (a : After) → ◌≡◌ {A = Bool × Survey × List ℕ} (a.listed, a.asked, a.stock) (x.listed, x.asked, x.stock) → (carried homes : List (ℕ × Option Closed)) → a.front ≡ x.front → IsInside v.start a.work
      → Stepped (v, carried) [] a.work a.glance a.change (w a, homes)
  tells_less a same_pass carried homes same = moved_same a same_pass carried homes [] ([], same)
      (rw same (legal_before v.start x.front passed.seen.0 (subst (IsHistory v.start) passed.seen.1 r.life.legal))) (ap (part_of_pass x.number) same)
