use Rattle.check_certificate.proofs.Words.{◌∙◌, ap, part_read, operation_of}
use Rattle.check_certificate.proofs.Bytes.{no_part, part_so}
use Rattle.check_certificate.proofs.Forcing.{got_mapped}
use Rattle.check_certificate.proofs.beginning.LogBeginning.part_of.Goals as goal

pub returns-in-Some : goal.returns-in-Some
returns-in-Some c =
    let own = c.args.self.now in
    let got = got_mapped (λ bytes. bytes.items) own.contents.now c.args.file.entry c.get.result c.get.ensures.lookup in
    c.part_read.ensures ∙ (ap (part_read (operation_of c.args.request.now.op)) c.as_slice.ensures.value
    ∙ part_so own.catalogue.now _ (operation_of c.args.request.now.op) c.args.file.entry _ own.are_contents (rw c.in-Some.is at got))

pub returns-in-None : goal.returns-in-None
returns-in-None c =
    let own = c.args.self.now in
    let got = got_mapped (λ bytes. bytes.items) own.contents.now c.args.file.entry c.get.result c.get.ensures.lookup in
    no_part own.catalogue.now _ (operation_of c.args.request.now.op) c.args.file.entry own.are_contents (rw c.in-None.is at got)
