use Rattle.rm_table.proofs.HeaderLemmas.{header-read}
use Rattle.rm_table.proofs.header.read_header.Goals as goal

pub returns : goal.returns
returns g c = λ rows begins.
    let told = header-read rows (g.S.RowSource.stand c.args.source.now) (g.S.RowSource.stand c.next.new.self) _ begins c.in_ok-next.ensures in
    (rw told.0 at c.wrong_cell.ensures, told.1, told.2)
