use Rattle.fx_chain.proofs.Words.{ℕ, None, Some, List, string_bytes, FileEntry, DependsOnFindings, Opens, Reads, Closes, Place, At, Free, Any}
use Rattle.fx_base.specs.declared.mark.Mark.TheVariants.{Registered}
use Rattle.fx_chain.proofs.request.Request.fixed_result.Goals as goal

-- it fails beside a full range
any_depends : (catalogue : List FileEntry) (place : Place) (name : List ℕ) → DependsOnFindings catalogue place (Opens name Any)
any_depends catalogue place name = (None, Some (Free 0), λ same. absurd (cc))

-- it fails at an empty slot
read_depends : (catalogue : List FileEntry) (place : Place) (slot off len : ℕ) → DependsOnFindings catalogue place (Reads slot off len)
read_depends catalogue place slot off len = (None, Some (At (Some (record { mark = Registered 0 0; entry = 0; tag = 0 }))), λ same. absurd (cc))

close_depends : (catalogue : List FileEntry) (place : Place) (slot : ℕ) → DependsOnFindings catalogue place (Closes slot)
close_depends catalogue place slot = (None, Some (At (Some (record { mark = Registered 0 0; entry = 0; tag = 0 }))), λ same. absurd (cc))

pub returns-in-Read-clause-none : goal.returns-in-Read-clause-none
returns-in-Read-clause-none c = λ limits none catalogue place.
    rw (c.in-Read.is) (read_depends catalogue place c.in-Read.slot c.in-Read.off c.in-Read.len)

pub returns-in-Close-clause-none : goal.returns-in-Close-clause-none
returns-in-Close-clause-none c = λ limits none catalogue place. rw (c.in-Close.is) (close_depends catalogue place c.in-Close.slot)

pub returns-in-Any-clause-none : goal.returns-in-Any-clause-none
returns-in-Any-clause-none c = λ limits none catalogue place.
    rw (c.in-Open.is) (rw (c.in-Any.is) (any_depends catalogue place (string_bytes c.in-Open.name)))
