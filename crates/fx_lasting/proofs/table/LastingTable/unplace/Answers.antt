use Rattle.fx_lasting.proofs.{◌≡◌, ℕ, ap, sym, ◌∙◌, inr, ⊎_elim, alone_in, as_written, label_of, rested, Runs, [], File, Counted, Guarded, Closed}
use Rattle.fx_lasting.proofs.{Sat, HasPlace, is_guarding, true, false, IsAtWork, LetsFileGo, None, Option, Some, Start, arith, file_then, runs_within}
use Rattle.fx_lasting.proofs.{still_at_work, IsBeside}
use Rattle.fx_lasting.proofs.node_lemmas.Labelling.{held_besides}
use Rattle.fx_lasting.proofs.table.LastingTable.unplace.Goals as goal

-- the pass has the place of its own node
has_place : {node own lost : ℕ} {file : Closed} {m : Sat} → IsBeside node own lost file m → HasPlace own (Some file) m
has_place {own = own} {lost = lost} {file = file} {m = m} b = record {
  work = inr (as_written lost (label_of file), ⊎_elim (λ is. ap alone_in is) (λ is. ap alone_in is) b.work);
  place = b.place;
}

-- afterwards it holds what it held
by_guard : {node own lost : ℕ} {file : Closed} {m : Sat} → is_guarding m.0.work ≡ true → (b : IsBeside node own lost file m) → rested m.0.work ≡ Guarded b.held node
by_guard {m = m} guards b = ⊎_elim (λ is. let bad : true ≡ false = sym guards ∙ ap is_guarding is in absurd (cc bad)) (λ is. ap rested is) b.work

by_take : {node own lost : ℕ} {file : Closed} {m : Sat} → is_guarding m.0.work ≡ false → (b : IsBeside node own lost file m) → rested m.0.work ≡ Counted b.held node
by_take {m = m} guards b = ⊎_elim (λ is. ap rested is) (λ is. let bad : false ≡ true = sym guards ∙ ap is_guarding is in absurd (cc bad)) b.work

-- a release in fewer steps
file_within : (m m' : Sat) (f : File) (r : Option Closed) → LetsFileGo m f 3 r m' → LetsFileGo m f 4 r m'
file_within m m' f None lets = runs_within (omega arith) lets
file_within m m' f (Some file) lets = (lets.0, runs_within (omega arith) lets.1)

pub take_out-file-requires-clause-place : goal.take_out-file-requires-clause-place
take_out-file-requires-clause-place c = (c.requires.beside.1, has_place c.requires.beside.2)

-- the pass after it took its own file out
out_of : {k : Start} {p : ℕ} {m m' : Sat} → IsAtWork k p m → Runs m [] (rested m.0.work) m.0.glance m.0.change 1 m' → IsAtWork k p m'
out_of at rests = still_at_work at rests

pub step_down-requires : goal.step_down-requires
step_down-requires c =
    let out = c.take_out-file.ensures in
    let is : is_guarding c.args.seat.now.me.0.work ≡ true = sym c.requires.guarded ∙ c.if-guarded.true in
    record {
      table = out.table ∙ c.requires.table;
      at = out_of c.requires.at out.rests;
      guarded = (c.requires.beside.2.held, out.rests.work ∙ by_guard is c.requires.beside.2);
      places = out.empty;
    }

pub returns-then-guarded : goal.returns-then-guarded
returns-then-guarded c =
    let out = c.take_out-file.ensures in
    let is : is_guarding c.args.seat.now.me.0.work ≡ true = sym c.requires.guarded ∙ c.if-guarded.true in
    record {
      table = c.step_down.ensures.table ∙ out.table;
      file = λ lost file beside. out.file file (has_place beside);
      released = λ f holds. let same : c.requires.beside.2.held ≡ f = cc (sym (held_besides c.requires.beside.2.work) ∙ holds) in
          file_then c.step_down.new.seat.me f 3 c.step_down.result out.rests
          (c.step_down.ensures.releases f (out.rests.work ∙ (by_guard is c.requires.beside.2 ∙ ap (λ (z : File). Guarded z c.args.node) same)));
      places = c.step_down.ensures.places;
    }

pub let_go-requires : goal.let_go-requires
let_go-requires c =
    let out = c.take_out-file.ensures in
    let is : is_guarding c.args.seat.now.me.0.work ≡ false = sym c.requires.guarded ∙ c.if-guarded.false in
    record {
      table = out.table ∙ c.requires.table;
      at = (c.args.number, out_of c.requires.at out.rests);
      has = inr (inr (c.requires.beside.2.held, out.rests.work ∙ by_take is c.requires.beside.2));
      places = out.empty;
    }

pub returns : goal.returns
returns c =
    let out = c.take_out-file.ensures in
    let is : is_guarding c.args.seat.now.me.0.work ≡ false = sym c.requires.guarded ∙ c.if-guarded.false in
    record {
      table = c.let_go.ensures.table ∙ out.table;
      file = λ lost file beside. out.file file (has_place beside);
      released = λ f holds. let same : c.requires.beside.2.held ≡ f = cc (sym (held_besides c.requires.beside.2.work) ∙ holds) in
          file_within c.args.seat.now.me c.let_go.new.seat.me f c.let_go.result (file_then c.let_go.new.seat.me f 2 c.let_go.result out.rests
          (c.let_go.ensures.held f (inr (out.rests.work ∙ (by_take is c.requires.beside.2 ∙ ap (λ (z : File). Counted z c.args.node) same)))));
      places = c.let_go.ensures.places;
    }
