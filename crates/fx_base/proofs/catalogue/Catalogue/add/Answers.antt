use Rattle.std.proofs.Common.{rules, sym, ap, ◌∙◌, ◌≡◌, ◌+◌, ◌++◌, ◌∷◌, [], ℕ, List, Some, None, length, string_bytes, arith}
use Rattle.std.proofs.lemmas.List.{map-append, length-map}
use Rattle.std.proofs.lemmas.Map.Text.{hash_map_updates_text}
use Rattle.std.specs.Prelude.{cond}
use Rattle.std.specs.Str.{bytes_eq}
use Rattle.std.specs.HashMap.{get_by_text}
use Rattle.fx_base.specs.Catalogue.{FileEntry}
use Rattle.fx_base.specs.CatalogueView.{file_entries_of, file_entry_of}
use Rattle.fx_base.specs.AddFault.{add_fault_of}
use Rattle.fx_base.proofs.Entries.{HasNoFault, no_fault, one_more, place_from, place_from-push}
use Rattle.fx_base.proofs.catalogue.Catalogue.add.Goals as goal

pub invariant_of-self-2 : goal.invariant_of-self-2
invariant_of-self-2 c =
    let y : FileEntry = record { name = string_bytes c.args.name; bytes = c.args.bytes.items } in
    let grown : file_entries_of c.push_reserved.new.self.items ≡ file_entries_of c.self.inside.entries.items ++ y ∷ [] =
    rw (c.push_reserved.ensures.items, c.reserve.ensures.items) (map-append file_entry_of c.self.inside.entries.items _) in
    let clean : add_fault_of (file_entries_of c.self.inside.entries.items) (string_bytes c.args.name) c.args.bytes.items ≡ None = search rules in
    let fits : HasNoFault (file_entries_of c.self.inside.entries.items) (string_bytes c.args.name) c.args.bytes.items = no_fault _ _ _ clean in
    let key : string_bytes c.in_ok-key.key ≡ string_bytes c.args.name = search rules in
    let place : c.len-place.result ≡ 0 + length (file_entries_of c.self.inside.entries.items) = simp length-map (omega arith) in (
      rw grown (one_more (file_entries_of c.self.inside.entries.items) y c.self.invariant.0 fits.few fits.small fits.named fits.new),
      λ name.
          hash_map_updates_text (string_bytes c.in_ok-key.key) c.self.inside.places c.insert.new.self _ c.in_ok-insert.ensures.updates name
          ∙ ap (λ (bytes : List ℕ). cond (bytes_eq bytes name) (Some c.len-place.result) (get_by_text c.self.inside.places name)) key
          ∙ (λ i. cond (bytes_eq (string_bytes c.args.name) name) (Some (place i)) (c.self.invariant.1 name i))
          ∙ sym (place_from-push name 0 (file_entries_of c.self.inside.entries.items) y fits.new) ∙ ap (place_from name 0) (sym grown),
    )
