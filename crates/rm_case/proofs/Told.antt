-- What is told of files holds of what follows from it.
use Rattle.std.proofs.Common.{Option, Some, None, IfSome}
use Rattle.rm_base.specs.Text.{Files}

pub where-told : (files : Option Files) (P Q : Files → Type 0) → ((fs : Files) → P fs → Q fs) → IfSome files P → IfSome files Q
where-told None P Q on h = tt
where-told (Some fs) P Q on h = on fs h
