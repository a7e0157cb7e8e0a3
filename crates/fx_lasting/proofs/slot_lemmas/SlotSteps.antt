-- A step on the word of a slot, whose file stays there.
use Rattle.fx_lasting.proofs.{alone_in, inl, true, Deed, untouched, has_acted, has_heated, heat_in, ◌≡◌, ◌≢◌, ℕ, ◌+◌, ◌<◌, ◌≤◌, List, [], set, sym}
use Rattle.fx_lasting.proofs.{refl, ap, ◌∙◌, arith, Option, held_by, File, Event, NodeAgrees, IsAllowed, SlotAgrees, Agrees, slots_of, nodes_of}
use Rattle.fx_lasting.proofs.{state_after_all, held_in, held_of, taken_of, taking, Phase, free, placed, seated, leaving, retired, emptied, kept, Work}
use Rattle.fx_lasting.proofs.{Glance, ⊎_elim, ◌⊎◌, inr, dite, ℕ_discrete, slot_place, word_of, count_in, name_in, full_name_in, entry_in, IsHot}
use Rattle.fx_lasting.proofs.{cold_takes, tally, birth_word, owed, sum_set, sum_by, get_elem?, length-set, MayBeUncharged, MOST_SLOTS, without_slot}
use Rattle.fx_lasting.proofs.{busy, nodes_untouched, slot_same, node_same, Leaves, keeps_other, guards_same, covers_hot, Turn, After, as_it_was}
use Rattle.fx_lasting.proofs.{Keeps, word_at, slot_word, sees_all, stocks_untouched, step_kept, w, end, its_log, node_in, range_left, LeavesFiles}
use Rattle.fx_lasting.proofs.{slot_words, slot_here, slot_node, slot_else, slot_by, slot_hold, slot_alike, slot_list, slot_label, MovesOn, ActsThere}
use Rattle.fx_lasting.proofs.{watch_none}

-- a slot's new word names the file that the old one named, and a hot slot stays hot
pub record NamesSame (new old : ℕ) : Type 0 where
  pub own : name_in new ≡ name_in old
  pub full : full_name_in new ≡ full_name_in old
  pub entry : entry_in new ≡ entry_in old
  pub hot : IsHot old → IsHot new

-- the slot's new word counts what passes have done there, after a deed of the pass
pub record DeedStep (turn : Turn) (s new : ℕ) (deed' : ℕ → ℕ → Deed) : Type 0 where
  pub takes : count_in new ≤ cold_takes turn.v.start.passes + tally (λ p. has_acted (deed' s p)) turn.v.start.passes
  pub heat : heat_in new ≡ tally (λ p. has_heated (deed' s p)) turn.v.start.passes
  pub elsewhere : (i q : ℕ) → i ≢ s → deed' i q ≡ turn.r.deed i q
  pub others : (q : ℕ) → q ≢ turn.x.number → deed' s q ≡ turn.r.deed s q
  pub its : deed' s turn.x.number ≢ untouched → (turn.r.deed s turn.x.number ≢ untouched) ⊎ (turn.x.listed ≡ true)

module _ (turn : Turn) (s : ℕ) (inside : s < slots_of turn.v.start) (new : ℕ) (h' : List Event) (d : Work) (g : Glance) (deed' : ℕ → ℕ → Deed) where
  open turn use {st, v, r, id, x, here, one}

  abbrev pub words' : List ℕ
  words' = slot_words turn s inside new

  abbrev pub slot_after : After turn
  slot_after = record (as_it_was turn) {
    h = h';
    front = h';
    words = words';
    deed = deed';
    work = d;
    glance = g;
    watch = without_slot MOST_SLOTS x.watch;
  }

  abbrev old : ℕ
  old = slot_word st.words s

  pub record SlotStep : Type 0 where
    pub files : LeavesFiles turn h'
    pub names : NamesSame new old
    -- the pass acted there, or heated it
    pub moved : ActsThere x.number s r.history h' ⊎ (heat_in old < heat_in new)
    pub deeds : DeedStep turn s new deed'
    -- the takes of the file's node, and those of others
    pub counts : (n : ℕ) (f : File) → n < nodes_of v.start → r.phase n ≡ seated s f
        → word_at st.words (word_of v.start n) + count_in new ≡ birth_word + sum_by (taken_of n) (set st.views id (w turn slot_after))
    pub taken : (n : ℕ) → n < nodes_of v.start → ((f : File) → r.phase n ≢ seated s f) → taking n d ≡ taking n v.work
    -- the pass
    pub owners : (alone_in d ≡ alone_in v.work) ⊎ (busy v.work ≡ 0)
    pub held : held_by h' x.number ≡ held_in d
    pub allowed : IsAllowed x.stock x.listed d
    pub its : Keeps turn slot_after id x.number d g
    pub holds : (n : ℕ) → (state_after_all v.start h').holds n + held_of n v ≡ (state_after_all v.start r.history).holds n + held_of n (w turn slot_after)

  -- each hot slot stays hot
  hot_on : (IsHot old → IsHot new) → (i : ℕ) → IsHot (slot_word st.words i) → IsHot (slot_word words' i)
  hot_on hot = slot_by turn s inside new (λ i word. IsHot (slot_word st.words i) → IsHot word) hot (λ i other h. h)

  -- a guard of a file at a hot slot
  pub covers_slot : (IsHot old → IsHot new) → (p n : ℕ) → MayBeUncharged (slot_word st.words) p (r.phase n) → MayBeUncharged (slot_word words') p (r.phase n)
  covers_slot hot = covers_hot turn words' (λ i l. hot_on hot i)

  module _ (p : SlotStep) where
    at_is : (i : ℕ) → (state_after_all v.start h').at i ≡ (state_after_all v.start r.history).at i
    at_is i = ap (λ (f : ℕ → Option File). f i) p.files.at

    same_name : (i : ℕ) → full_name_in (slot_word words' i) ≡ full_name_in (slot_word st.words i)
    same_name = slot_by turn s inside new (λ i word. full_name_in word ≡ full_name_in (slot_word st.words i)) p.names.full (λ i other. refl)

    same_own_name : (i : ℕ) → i < slots_of v.start → name_in (slot_word words' i) ≡ name_in (slot_word st.words i)
    same_own_name i l = slot_by turn s inside new (λ i word. name_in word ≡ name_in (slot_word st.words i)) p.names.own (λ i other. refl) i

    slot_now : SlotAgrees v.start r.node_of r.phase (deed' s) s ((state_after_all v.start h').at s) (slot_word words' s)
    slot_now = grind (arith, slot_here, at_is)

    leaves : Leaves turn slot_after
    leaves = record {
      guards = λ q e other range. guards_same turn slot_after q e (slot_hold turn s inside new q range.0) refl (covers_slot p.names.hot q);
      owned = λ n some not_mine. refl;
      spare = λ n q e is at other. is;
      open_file = λ j u f n other there holds at. at;
      slots = λ i q l other. dite (ℕ_discrete i s)
          (λ same. inr (
            ap (λ (j : ℕ). deed' j q) same ∙ (p.deeds.others q other ∙ sym (ap (λ (j : ℕ). r.deed j q) same)),
            same_name i,
            hot_on p.names.hot i,
          ))
          (λ ne. inr (p.deeds.elsewhere i q ne, same_name i, hot_on p.names.hot i));
    }

    abbrev Node : ℕ → Phase → Type 0
    Node n = NodeAgrees (state_after_all v.start h').at (slots_of v.start) (λ i. count_in (slot_word words' i)) r.node_of r.nodes.next_number n
        (word_at words' (word_of v.start n)) (sum_by (taken_of n) (set st.views id (w turn slot_after))) (owed r.debt v.start.passes n)
        (get_elem? st.homes n)

    same_else : (n : ℕ) → n < nodes_of v.start → (ph : Phase) → r.phase n ≡ ph → ((f : File) → ph ≢ seated s f) → Node n ph
    same_else n l ph is else = node_same (slots_of v.start) r.node_of n (omega arith) (slot_node turn s inside new n)
        (let t = sum_set (taken_of n) st.views id v (w turn slot_after) here in let e = p.taken n l (λ f at. else f (sym is ∙ at)) in omega arith)
        refl refl ph (λ i f at there. (at_is i, ap count_in (slot_else turn s inside new i (λ same. else f (at ∙ ap (λ (j : ℕ). seated j f) same)))))
        (node_in r l is)

    node_now : (n : ℕ) → n < nodes_of v.start → (ph : Phase) → r.phase n ≡ ph → Node n ph
    node_now n l (seated i f) is = dite (ℕ_discrete i s)
        (λ same. let o = node_in r l is in
        let c = p.counts n f l (is ∙ ap (λ (j : ℕ). seated j f) same) in
        let e = ap (λ (j : ℕ). count_in (slot_word words' j)) same in let h = ap count_in (slot_here turn s inside new) in
        let k = slot_node turn s inside new n in record {
          file = o.file;
          counts = omega arith;
          few = let b = o.few in omega arith;
          unowed = o.unowed;
          inside = o.inside;
          there = at_is i ∙ o.there;
        })
        (λ other. same_else n l (seated i f) is (λ h bad. other (cc bad)))
    node_now n l free is = same_else n l free is (λ h bad. cc bad)
    node_now n l (placed j z) is = same_else n l (placed j z) is (λ h bad. cc bad)
    node_now n l (leaving j t nx m f) is = same_else n l (leaving j t nx m f) is (λ h bad. cc bad)
    node_now n l (retired f) is = same_else n l (retired f) is (λ h bad. cc bad)
    node_now n l (emptied j) is = same_else n l (emptied j) is (λ h bad. cc bad)
    node_now n l (kept j lost) is = same_else n l (kept j lost) is (λ h bad. cc bad)

    pub slot_kept : Agrees v.start (end turn slot_after)
    slot_kept = step_kept turn slot_after record {
      words = length-set st.words (slot_place s) new;
      homes = refl;
      life = sees_all turn p.files.grows p.files.legal;
      nodes = nodes_untouched turn (w turn slot_after) p.files (slot_label turn s inside new) p.owners (λ n l. node_now n l (r.phase n) refl);
      stocks = stocks_untouched turn words' same_own_name;
      slots = record {
        each = λ i l. dite (ℕ_discrete i s) (λ same. rw same slot_now)
            (λ other. slot_same (slot_else turn s inside new i other) (at_is i)
            (λ q low high. p.deeds.elsewhere i q other) (λ f there seat. refl) (r.slots i l));
        moves = λ i l. slot_by turn s inside new (λ i word. MovesOn x.number i r.history h' (slot_word st.words i) word) (inr p.moved) (λ i other. inl refl) i;
      };
      holds = record {
        others = λ j u z other there at n range o work. keeps_other turn slot_after leaves j u z other there at n range o work;
        its = p.its;
        held = p.held;
        allowed = p.allowed;
        files = p.holds;
      };
      list = record {
        words = λ i few. inl (slot_list turn s inside new i few);
        takers = λ i q l is. dite (ℕ_discrete i s)
            (λ same. let here : deed' s q ≢ untouched = λ e. is (ap (λ (j : ℕ). deed' j q) same ∙ e) in dite (ℕ_discrete q x.number)
            (λ own. ⊎_elim (λ before. inl (λ e. before (sym (λ k. r.deed (same k) (own k)) ∙ e))) (λ has. inr (own, has)) (p.deeds.its (λ e. here (ap (deed' s) own ∙ e))))
            (λ other. inl (λ e. here (p.deeds.others q other ∙ (sym (ap (λ (j : ℕ). r.deed j q) same) ∙ e)))))
            (λ ne. inl (λ e. is (p.deeds.elsewhere i q ne ∙ e)));
        its_bit = λ l. inl l;
      };
      range = range_left turn slot_after p.files.at (slot_alike turn s inside new) refl refl;
      watch = watch_none v.start x.number r.shape.slots (p.files.grows.seen r.history ([], refl)) (slot_alike turn s inside new).0 x.watch (its_log turn).watch;
    }
