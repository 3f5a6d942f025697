-- The report is made of the answer of the call by value.
use Rattle.samblokur_text.proofs.Report.{reported}
use Rattle.samblokur_text.proofs.entries.samblokur_read.Goals as goal

-- src/entries.rt:7:1
pub returns : goal.returns
returns c = let e = c.read-reply.ensures in
    let r = reported _ _ _ e.0 in
    (r.0, e.1, r.1)
