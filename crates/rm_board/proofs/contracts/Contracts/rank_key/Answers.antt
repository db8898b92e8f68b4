use Rattle.std.proofs.Common.{arith}
use Rattle.rm_board.proofs.RankKeys.{start-le, key-is, key-bound}
use Rattle.rm_board.proofs.contracts.Contracts.rank_key.Goals as goal

pub overflow_sub-place : goal.overflow_sub-place
overflow_sub-place c = start-le c.args.self.now c.args.x c.requires.contract _ (rw c.hospital-h.ensures.hospital at c.start.ensures.start)

pub overflow_mul-result : goal.overflow_mul-result
overflow_mul-result c =
    let is = key-is c.args.self.now c.args.x c.requires.contract _ (rw c.hospital-h.ensures.hospital at c.start.ensures.start) in
    let all = key-bound c.args.self.now c.args.x c.requires.contract in
    rw c.hospitals.ensures (omega (arith, is, all, c.requires.fits))

pub overflow_add-result : goal.overflow_add-result
overflow_add-result c =
    let is = key-is c.args.self.now c.args.x c.requires.contract _ (rw c.hospital-h.ensures.hospital at c.start.ensures.start) in
    let all = key-bound c.args.self.now c.args.x c.requires.contract in
    rw (c.hospitals.ensures, c.hospital-h.ensures.hospital) (omega (arith, is, all, c.requires.fits))

pub returns : goal.returns
returns c = rw (c.hospitals.ensures, c.hospital-h.ensures.hospital) (key-is c.args.self.now c.args.x c.requires.contract _ (rw c.hospital-h.ensures.hospital at c.start.ensures.start))
