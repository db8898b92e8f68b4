use Rattle.std.proofs.Common.{◌<◌, ◌≤◌, length, arith}
use Rattle.rm_outside.proofs.ReadLemmas.{answers_whole}
use Rattle.rm_outside.proofs.folder.read_up_to.Goals as goal

pub returns : goal.returns
returns g c =
    let bytes = c.read_to_end-read.new.buf in
    let most = c.saturating_add.result in
    let room : length bytes.items ≤ c.args.limit → length bytes.items < most = λ within. omega (arith, within, c.saturating_add.ensures, bytes.ok, bytes.small) in
    let gave = rw (c.take-front.ensures.limit, c.take-front.ensures.inner, c.new-bytes.ensures.items) at c.read_to_end-read.ensures.bytes in
    answers_whole (g.R.Read.remaining c.args.reader) most c.args.limit bytes.items c.read_to_end-read.result c.outcome.result _ room gave c.outcome.ensures.ok c.outcome.ensures.fault
