use Rattle.std.proofs.Common.{◌∙◌, ap, rules, sym, Some}
use Rattle.toml.proofs.Views.{view-Table}
use Rattle.toml.specs.Data.{Data}
use Rattle.toml.specs.View.{table_view}
use Rattle.rm_policy.proofs.DocumentLemmas.{document-some, document-none}
use Rattle.rm_policy.proofs.policy.read_document.Goals as goal

pub returns-in-Ok : goal.returns-in-Ok
returns-in-Ok c =
    document-some c.args.text.now (table_view c.in-Ok.table) c.in-Ok.ensures.ok.0 c.in-Ok.ensures.ok.1 ∙ ap (λ (d : Data). Some d) (sym (view-Table c.in-Ok.table))

pub returns-else-is_memory : goal.returns-else-is_memory
returns-else-is_memory c = (document-none c.args.text.now (c.in-Err.ensures.refused (search rules)), c.refused.ensures)
