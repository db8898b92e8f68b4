-- The first draws of a seed, as the generator's authors publish them.
use Rattle.std.proofs.Common.{◌≡◌, refl}
use Rattle.rm_drill.specs.Draws.{draw, drawn}

first : draw 1234567 0 ≡ 6457827717110365317
unfolding drawn
first = refl

second : draw 1234567 1 ≡ 3203168211198807973
unfolding drawn
second = refl

third : draw 1234567 2 ≡ 9817491932198370423
unfolding drawn
third = refl
