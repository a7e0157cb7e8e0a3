use Rattle.fx_chain.proofs.request.refusal_of_opened.Goals as goal

pub returns-in-Update : goal.returns-in-Update
returns-in-Update c = λ catalogue entry many opened. rw (c.in-Update.is, many) (rw c.deref.ensures.value at c.list_refusal.ensures)
