-- The parts of words.
use Rattle.std.proofs.Common.{◌≡◌, ◌≢◌, ℕ, ◌+◌, ◌-◌, ◌^◌, ◌<◌, ◌≤◌, Some, None, refl, ap, sym, ◌∙◌, arith, ne_eqb, eq-eqb}
use mathlib.Core.Logic.{dite}
use native.Mathlib.Decide.{ℕ_discrete}
use Rattle.fx_words.specs.Words.{slot_word_of, name_in, named, entry_in, takes_in}
use Rattle.fx_words.specs.Laws.{ReadersUndoMaker, MakerUndoesReaders, OneMoreTakeChangesTakes}

pub name_made : (node entry : ℕ) → entry < 2 ^ 8 → name_in (slot_word_of node entry) ≡ node + 1
name_made node entry small = omega arith

pub entry_made : (node entry : ℕ) → entry < 2 ^ 8 → entry_in (slot_word_of node entry) ≡ entry
entry_made node entry small = omega arith

pub takes_made : (node entry : ℕ) → takes_in (slot_word_of node entry) ≡ 0
takes_made node entry = omega arith

pub named_suc : (name node : ℕ) → name ≡ node + 1 → named name ≡ Some node
named_suc name node is = ap named is
    ∙ rw (ne_eqb (node + 1) 0 (λ bad. omega arith)) (let e : node + 1 - 1 ≡ node = omega arith in ap (λ (n : ℕ). Some n) e)

pub name_more : (word : ℕ) → takes_in word + 1 < 2 ^ 32 → name_in (word + 1) ≡ name_in word
name_more word room = omega arith

pub entry_more : (word : ℕ) → takes_in word + 1 < 2 ^ 32 → entry_in (word + 1) ≡ entry_in word
entry_more word room = omega arith

pub takes_more : (word : ℕ) → takes_in word + 1 < 2 ^ 32 → takes_in (word + 1) ≡ takes_in word + 1
takes_more word room = omega arith

named_back : (name node : ℕ) → named name ≡ Some node → name ≡ node + 1
named_back name node is = dite (ℕ_discrete name 0)
    (λ none. absurd (let e : None ≡ Some node = sym (named_none name none) ∙ is in cc e))
    (λ some. let e : Some (name - 1) ≡ Some node = sym (named_some name some) ∙ is in let p : name - 1 ≡ node = cc e in omega (arith, some, p))
  where
    named_none : (name : ℕ) → name ≡ 0 → named name ≡ None
    named_none name e = rw (eq-eqb name 0 e) refl

    named_some : (name : ℕ) → name ≢ 0 → named name ≡ Some (name - 1)
    named_some name e = rw (ne_eqb name 0 e) refl

pub reads_back : ReadersUndoMaker
reads_back node entry few small = record {
  word = omega arith;
  node_back = named_suc _ node (name_made node entry small);
  entry_back = entry_made node entry small;
  no_takes = takes_made node entry;
}

pub made_back : MakerUndoesReaders
made_back word node is = let e = named_back (name_in word) node is in omega arith

pub takes_one : OneMoreTakeChangesTakes
takes_one word fits room = record {
  word = omega arith;
  same_node = ap named (name_more word room);
  same_entry = entry_more word room;
  takes = takes_more word room;
}
