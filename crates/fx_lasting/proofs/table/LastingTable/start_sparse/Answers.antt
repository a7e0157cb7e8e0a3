use Rattle.fx_lasting.proofs.{◌≡◌, ℕ, sym, ap, ◌∙◌, arith, Start, nodes_of, replicate, nodes_for}
use Rattle.fx_lasting.proofs.life_lemmas.Openings.{opening_keeps}
use Rattle.fx_lasting.proofs.life_lemmas.Sparse.{same_size, opens_with}
use Rattle.fx_lasting.proofs.table.LastingTable.start_sparse.Goals as goal

pub vacant-requires : goal.vacant-requires
vacant-requires c =
    let k : Start = record {
      size = c.args.size;
      range_start = c.args.range.0;
      range_len = c.args.range.1;
      passes = c.args.passes;
      installing = c.args.installing;
    } in
    let many : c.nodes_for-nodes.result ≡ nodes_of k =
    c.nodes_for-nodes.ensures.nodes ∙ ap (λ (m : ℕ). nodes_for m c.args.passes c.args.installing) (sym (same_size k)) in
    let items = c.in_ok-words.ensures.items_if_clones_equal (λ y is. is) ∙ ap (λ (m : ℕ). replicate {A = ℕ} m 0) c.words_for.ensures in
    opening_keeps k _ _ (rw c.as_slice.ensures.value (opens_with k c.nodes_for-nodes.result c.requires.size c.requires.range c.requires.passes.1
    (omega (arith, c.nodes_for-nodes.ensures.few)) many items c.name_slots.ensures))
