-- The views of a table change, and nothing else does: words, places and the history are as they
-- were.
use Rattle.fx_lasting.proofs.{◌≡◌, ℕ, List, sym, ◌∙◌, subst, some, get_elem?, sum_by, Contains, NodeAgrees, OwnerAgrees, ViewAgrees, StockAgrees}
use Rattle.fx_lasting.proofs.{RangeCounts, Agrees, Phase, Shared, Start, View, Log, count_in, state_after_all, range_at_start, slots_of, word_of}
use Rattle.fx_lasting.proofs.{owed, taken_of, held_of, seats, Together, word_at, slot_word}

module _ (k : Start) (s : Shared) (r : Agrees k s) (views : List View) where
  -- what the views have to keep
  pub record Reseated : Type 0 where
    pub taken : (n : ℕ) → sum_by (taken_of n) views ≡ sum_by (taken_of n) s.views
    pub owners : (n : ℕ) (ph : Phase) → OwnerAgrees s.views n ph → OwnerAgrees views n ph
    pub stocks : (j : ℕ) (v : View) (x : Log) → get_elem? views j ≡ some v → Contains v.logs x → StockAgrees k r.nodes.where_is x.number x.stock
    pub each_view : (j : ℕ) (v : View) → get_elem? views j ≡ some v → ViewAgrees k r.history s.words r.phase r.debt r.deed j v
    pub holds : (number : ℕ) → sum_by (held_of number) views ≡ sum_by (held_of number) s.views
    pub life : Together seats k views r.history
    pub counts : RangeCounts (state_after_all k r.history).at (range_at_start k) views s.words

  abbrev pub reseat : Reseated → Agrees k record { words = s.words; homes = s.homes; views = views }
  reseat a = record {
    shape = let h = r.shape in assumption (h.words, h.homes);
    history = r.history;
    phase = r.phase;
    node_of = r.node_of;
    numbering = r.numbering;
    debt = r.debt;
    deed = r.deed;
    nodes = record {
      next_number = r.nodes.next_number;
      each = λ n l. subst (λ (t : ℕ). NodeAgrees (state_after_all k r.history).at (slots_of k) (λ i. count_in (slot_word s.words i)) r.node_of
          r.nodes.next_number n (word_at s.words (word_of k n)) t (owed r.debt k.passes n) (get_elem? s.homes n) (r.phase n))
          (sym (a.taken n)) (r.nodes.each n l);
      owners = λ n l. a.owners n (r.phase n) (r.nodes.owners n l);
      labels = r.nodes.labels;
      removed = r.nodes.removed;
      unborn = r.nodes.unborn;
      fresh = r.nodes.fresh;
      where_is = r.nodes.where_is;
      named = r.nodes.named;
      stocks = a.stocks;
    };
    slots = r.slots;
    holds = record {
      views = a.each_view;
      files = λ number. r.holds.files number ∙ sym (a.holds number);
      listed = r.holds.listed;
    };
    range = a.counts;
    life = a.life;
  }
