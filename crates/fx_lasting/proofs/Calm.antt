-- Steps at which no slot and no node changes: they change the pass alone, and perhaps its hold word
-- or a word that counts or asks.
use Rattle.fx_lasting.proofs.{alone_in, ◌≡◌, ◌≢◌, ℕ, ◌+◌, ◌<◌, List, set, length, refl, ap, arith, Option, Bool, held_by, File, Event, range_at_start}
use Rattle.fx_lasting.proofs.{IsAllowed, Agrees, RangeCounts, Survey, slots_of, state_after_all, held_in, held_of, taken_of, taking, Work, Glance}
use Rattle.fx_lasting.proofs.{Change, ◌⊎◌, inr, word_of, hold_word_of, count_in, name_in, full_name_in, HoldAgrees, GuardAgrees, WorkAgrees, sum_set}
use Rattle.fx_lasting.proofs.{length-set, set-get_or, [], IsSeenBy, part_of_pass, ◌≤◌, inl, true, list_place, IsListedIn, Watch, WatchAgrees}
use Rattle.fx_lasting.proofs.{changes_in, busy, nodes_untouched, slot_same, node_same, Leaves, keeps_other, guards_same, covers_same, sees_same, Turn}
use Rattle.fx_lasting.proofs.{After, as_it_was, Keeps, word_at, slot_word, step_kept, w, end, its_log, in_range, stocks_untouched, LabelSame}
use Rattle.fx_lasting.proofs.{end_read, node_in, met_same, found_same, range_left, LeavesFiles, watch_same, hold_words, hold_here, hold_node}
use Rattle.fx_lasting.proofs.{hold_slot, hold_else, hold_alike, hold_list, hold_label}
use Rattle.fx_lasting.proofs.hold_lemmas.Lists.{ListGoesOn}

module _ (turn : Turn) (found : List ℕ) (more_found : (s : ℕ) → changes_in s turn.x ≤ changes_in s (record turn.x { changed = found }))
    (h' front : List Event) (words' : List ℕ) (d : Work) (g : Glance) (c : Change) (q : Survey) (l : Bool)
    (still : turn.x.listed ≡ true → l ≡ true) (o : Watch) (more : turn.x.watch.met ≤ o.met) where
  open turn use {st, v, r, id, x, here, one}

  abbrev pub finding_after : After turn
  finding_after = record (as_it_was turn) {
    h = h';
    front = front;
    words = words';
    work = d;
    glance = g;
    change = c;
    asked = q;
    listed = l;
    still_listed = still;
    watch = o;
    more_met = more;
    changed = found;
    more_changed = more_found;
  }

  pub record Calm : Type 0 where
    pub words : length words' ≡ length st.words
    pub files : LeavesFiles turn h'
    pub seen : IsSeenBy front h'
    pub own : part_of_pass x.number h' ≡ part_of_pass x.number front
    pub slot_words : (s : ℕ) → s < slots_of v.start → slot_word words' s ≡ slot_word st.words s
    pub node_words : (n : ℕ) → word_at words' (word_of v.start n) ≡ word_at st.words (word_of v.start n)
    pub label_words : (n : ℕ) → LabelSame v.start words' st.words n
    pub hold_words : (p : ℕ) → p ≢ x.number → 0 < p → word_at words' (hold_word_of v.start p) ≡ word_at st.words (hold_word_of v.start p)
    pub counts : RangeCounts (state_after_all v.start h').at (range_at_start v.start) (set st.views id (w turn finding_after)) words'
    pub taken : (n : ℕ) → taking n d ≡ taking n v.work
    pub owners : (alone_in d ≡ alone_in v.work) ⊎ (busy v.work ≡ 0)
    pub held : held_by h' x.number ≡ held_in d
    pub allowed : IsAllowed x.stock l d
    pub lists : (p : ℕ) → p ≤ 1024 → ListGoesOn x.number l p (word_at st.words (list_place p)) (word_at words' (list_place p))
    pub its_bit : l ≡ true → (x.listed ≡ true) ⊎ IsListedIn (word_at words' (list_place x.number)) x.number
    pub watches : WatchAgrees v.start h' words' x.number o
    pub its : Keeps turn finding_after id x.number d g
    pub holds : (n : ℕ) → (state_after_all v.start h').holds n + held_of n v ≡ (state_after_all v.start r.history).holds n + held_of n (w turn finding_after)

  pub finding_kept : Calm → Agrees v.start (end turn finding_after)
  finding_kept s = let at_is : (i : ℕ) → (state_after_all v.start h').at i ≡ (state_after_all v.start r.history).at i =
      λ i. ap (λ (f : ℕ → Option File). f i) s.files.at in step_kept turn finding_after record {
        words = s.words;
        homes = refl;
        life = record { grows = s.files.grows; legal = s.files.legal; seen = s.seen; own = s.own };
        nodes = nodes_untouched turn (w turn finding_after) s.files s.label_words s.owners
            (λ n l. node_same (slots_of v.start) r.node_of n (omega arith) (s.node_words n)
            (let t = sum_set (taken_of n) st.views id v (w turn finding_after) here in let e = s.taken n in omega arith)
            refl refl (r.phase n) (λ i f is there. (at_is i, ap count_in (s.slot_words i (node_in r l is).inside))) (r.nodes.each n l));
        stocks = stocks_untouched turn words' (λ i l. ap name_in (s.slot_words i l));
        slots = record {
          each = λ i l. slot_same (s.slot_words i l) (at_is i) (λ q low high. refl) (λ f there seat. refl) (r.slots i l);
          moves = λ i l. inl (s.slot_words i l);
        };
        holds = record {
          others = λ j u z other there at n range o work. keeps_other turn finding_after leaves j u z other there at n range o work;
          its = s.its;
          held = s.held;
          allowed = s.allowed;
          files = s.holds;
        };
        list = record { words = s.lists; takers = λ i q l is. inl is; its_bit = s.its_bit };
        range = s.counts;
        watch = s.watches;
      }
    where
      leaves : Leaves turn finding_after
      leaves = record {
        guards = λ p e other range. guards_same turn finding_after p e (s.hold_words p other range.0) refl (covers_same turn words' s.slot_words p);
        owned = λ n some not_mine. refl;
        spare = λ n p e is at other. is;
        open_file = λ j u f n other there holds at. at;
        slots = λ i p l other. inr (refl, ap full_name_in (s.slot_words i l), λ hot. rw (s.slot_words i l) hot);
      }

-- A step after which the pass has found no other word changed
abbrev pub calm_after : (turn : Turn) (h' front : List Event) (words' : List ℕ) (d : Work) (g : Glance) (c : Change) (q : Survey) (l : Bool)
    → (turn.x.listed ≡ true → l ≡ true) → (o : Watch) → turn.x.watch.met ≤ o.met → After turn
calm_after turn = finding_after turn turn.x.changed (found_same turn.x)

pub calm_kept : (turn : Turn) (h' front : List Event) (words' : List ℕ) (d : Work) (g : Glance) (c : Change) (q : Survey) (l : Bool)
    (still : turn.x.listed ≡ true → l ≡ true) (o : Watch) (more : turn.x.watch.met ≤ o.met)
    → Calm turn turn.x.changed (found_same turn.x) h' front words' d g c q l still o more → Agrees turn.v.start (end turn (calm_after turn h' front words' d g c q l still o more))
calm_kept turn h' front words' d g c q l still o more s = finding_kept turn turn.x.changed (found_same turn.x) h' front words' d g c q l still o more s

-- A step on the pass's own hold word
module _ (turn : Turn) (new : ℕ) (d : Work) where
  open turn use {st, v, r, id, x, here, one}

  abbrev pub own_words : List ℕ
  own_words = hold_words turn x.number (in_range turn).0 (in_range turn).1 new

  abbrev pub own_after : (h' : List Event) → After turn
  own_after h' = calm_after turn h' h' own_words d v.glance v.change x.asked x.listed (λ l. l) x.watch (met_same x.watch.met)

  pub record Own (h' : List Event) : Type 0 where
    pub files : LeavesFiles turn h'
    pub taken : (n : ℕ) → taking n d ≡ taking n v.work
    pub owners : (alone_in d ≡ alone_in v.work) ⊎ (busy v.work ≡ 0)
    pub held : held_by h' x.number ≡ held_in d
    pub allowed : IsAllowed x.stock x.listed d
    pub hold : HoldAgrees new (r.debt x.number) d
    pub guarded : GuardAgrees (slot_word own_words) r.phase x.number (r.debt x.number) d
    pub work : WorkAgrees v.start r.phase id d
    pub holds : (n : ℕ) → (state_after_all v.start h').holds n + held_of n v
        ≡ (state_after_all v.start r.history).holds n + held_of n (w turn (own_after h'))

  pub own_kept : {h' : List Event} → Own h' → Agrees v.start (end turn (own_after h'))
  own_kept {h'} s = let low = (in_range turn).0 in let high = (in_range turn).1 in let same = hold_slot turn x.number low high new in
      let o = its_log turn in calm_kept turn h' h' own_words d v.glance v.change x.asked x.listed (λ l. l) x.watch (met_same x.watch.met) record {
        words = length-set st.words (hold_word_of v.start x.number) new;
        files = s.files;
        seen = ([], refl);
        own = refl;
        slot_words = same;
        node_words = hold_node turn x.number low high new;
        label_words = hold_label turn x.number low high new;
        hold_words = λ p other more. hold_else turn x.number low high new p other;
        counts = range_left turn (own_after h') s.files.at (hold_alike turn x.number low high new) refl refl;
        taken = s.taken;
        owners = s.owners;
        held = s.held;
        allowed = s.allowed;
        lists = λ p few. inl (hold_list turn x.number low high new p few);
        its_bit = λ l. inl l;
        watches = watch_same v.start x.number (s.files.grows.seen r.history ([], refl)) same (hold_alike turn x.number low high new).0 x.watch o.watch;
        its = record {
          hold = rw (hold_here turn x.number low high new) s.hold;
          guarded = s.guarded;
          sees = sees_same v.start (λ s. r.deed s x.number) same v.glance o.sees;
          heats = o.heats;
          work = s.work;
        };
        holds = s.holds;
      }

-- A step that reads a word
module _ (turn : Turn) (d : Work) (g : Glance) where
  open turn use {st, v, r, id, x, here, one}

  -- after which it has found these words changed, and watches this
  abbrev pub read_finding : (found : List ℕ) → ((s : ℕ) → changes_in s x ≤ changes_in s (record x { changed = found })) → (o : Watch) → x.watch.met ≤ o.met
      → (h' front : List Event) → After turn
  read_finding found more_found o more h' front = finding_after turn found more_found h' front st.words d g v.change x.asked x.listed (λ l. l) o more

  abbrev pub read_before : (h' front : List Event) → After turn
  read_before h' front = read_finding x.changed (found_same x) x.watch (met_same x.watch.met) h' front

  abbrev pub read_after : (h' : List Event) → After turn
  read_after h' = read_before h' h'

  pub record Reads (h' : List Event) : Type 0 where
    pub files : LeavesFiles turn h'
    pub taken : (n : ℕ) → taking n d ≡ taking n v.work
    pub owners : (alone_in d ≡ alone_in v.work) ⊎ (busy v.work ≡ 0)
    pub held : held_by h' x.number ≡ held_in d
    pub allowed : IsAllowed x.stock x.listed d
    pub its : Keeps turn (read_after h') id x.number d g
    pub holds : (n : ℕ) → (state_after_all v.start h').holds n + held_of n v
        ≡ (state_after_all v.start r.history).holds n + held_of n (w turn (read_after h'))

  pub read_finding_kept : {h' : List Event} (found : List ℕ) (more_found : (s : ℕ) → changes_in s x ≤ changes_in s (record x { changed = found }))
      (o : Watch) (more : x.watch.met ≤ o.met) (front : List Event) (i : ℕ) → IsSeenBy front h'
      → part_of_pass x.number h' ≡ part_of_pass x.number front → WatchAgrees v.start h' st.words x.number o → Reads h'
      → Agrees v.start (end_read turn (read_finding found more_found o more h' front) i)
  read_finding_kept {h'} found more_found o more front i seen own watches s =
      rw (set-get_or st.words i 0) (finding_kept turn found more_found h' front st.words d g v.change x.asked x.listed (λ l. l) o more record {
        words = refl;
        files = s.files;
        seen = seen;
        own = own;
        slot_words = λ s l. refl;
        node_words = λ n. refl;
        label_words = λ n. (refl, refl);
        hold_words = λ p other more. refl;
        counts = range_left turn (read_finding found more_found o more h' front) s.files.at (refl, λ g l. refl) refl refl;
        taken = s.taken;
        owners = s.owners;
        held = s.held;
        allowed = s.allowed;
        lists = λ p few. inl refl;
        its_bit = λ l. inl l;
        watches = watches;
        its = let i = s.its in record { hold = i.hold; guarded = i.guarded; sees = i.sees; heats = i.heats; work = i.work };
        holds = s.holds;
      })

  -- the pass may see no more than before
  pub read_before_kept : {h' : List Event} (front : List Event) (i : ℕ) → IsSeenBy front h' → part_of_pass x.number h' ≡ part_of_pass x.number front
      → Reads h' → Agrees v.start (end_read turn (read_before h' front) i)
  read_before_kept {h'} front i seen own s = read_finding_kept x.changed (found_same x) x.watch (met_same x.watch.met) front i seen own
      (watch_same v.start x.number (s.files.grows.seen r.history ([], refl)) (λ s l. refl) refl x.watch (its_log turn).watch) s

  pub read_kept : {h' : List Event} (i : ℕ) → Reads h' → Agrees v.start (end_read turn (read_after h') i)
  read_kept {h'} i s = read_before_kept h' i ([], refl) refl s
