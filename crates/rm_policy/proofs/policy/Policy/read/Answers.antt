use Rattle.toml.specs.View.{view}
use Rattle.rm_policy.specs.Values.{document_of}
use Rattle.rm_policy.proofs.DocumentLemmas.{document-fault, policy-fault, policy-told}
use Rattle.rm_policy.proofs.policy.Policy.read.Goals as goal

pub returns-in-Err : goal.returns-in-Err
returns-in-Err c = document-fault c.args.roster.now (document_of c.args.text.now) c.in-Err.fault c.in-Err.ensures

pub returns-in-Ok-of_document : goal.returns-in-Ok-of_document
returns-in-Ok-of_document c =
    policy-told c.args.roster.now (document_of c.args.text.now) (view c.in-Ok.document) c.in-Ok-of_document.policy c.in-Ok.ensures c.in-Ok-of_document.ensures.0 c.in-Ok-of_document.ensures.1

pub returns : goal.returns
returns c = policy-fault c.args.roster.now (document_of c.args.text.now) (view c.in-Ok.document) c.in-Err-of_document.fault c.in-Ok.ensures c.in-Err-of_document.ensures
