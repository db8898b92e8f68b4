-- What is told on `err`, by how a call ends.
use Rattle.std.proofs.Common.{ℕ, ◌+◌, ⊎_elim, Option, Some, None, refl, sym, subst, arith}
use Rattle.rm_top.specs.Answers.{IsErrorText, IsWritten}
use Rattle.rm_top.specs.Command.{Command}
use Rattle.rm_top.specs.Ending.{Ends, Seen, status_of, text_of}
use Rattle.rm_top.specs.declared.ending.Ending.{Ending}
use Rattle.rm_top.specs.declared.ending.Ending.TheVariants as end

-- with status 2 and above no text was written
unwritten : (n : ℕ) → ¬ IsWritten (n + 2)
unwritten n e = ⊎_elim (λ f. omega (arith, f)) (λ f. omega (arith, f)) e

bad_words_told : (s : Seen) (command : Option Command) → IsErrorText s.files s.blame command (status_of end.BadWords) (text_of end.BadWords)
bad_words_told s command = record {
  nothing = λ e. absurd (unwritten 0 e);
  usage = λ e. refl;
  refusal = λ e. absurd (omega (arith, e));
  read_fault = λ e. absurd (omega (arith, e));
  write_fault = λ e. absurd (omega (arith, e));
  memory = λ e. absurd (omega (arith, e));
}

command_told : (s : Seen) (c : Command) (e : Ending) → Ends s (Some c) e → IsErrorText s.files s.blame (Some c) (status_of e) (text_of e)
command_told s c end.Written ends = record {
  nothing = λ e. refl;
  usage = λ e. absurd (omega (arith, e));
  refusal = λ e. absurd (omega (arith, e));
  read_fault = λ e. absurd (omega (arith, e));
  write_fault = λ e. absurd (omega (arith, e));
  memory = λ e. absurd (omega (arith, e));
}
command_told s c end.Objected ends = record {
  nothing = λ e. refl;
  usage = λ e. absurd (omega (arith, e));
  refusal = λ e. absurd (omega (arith, e));
  read_fault = λ e. absurd (omega (arith, e));
  write_fault = λ e. absurd (omega (arith, e));
  memory = λ e. absurd (omega (arith, e));
}
command_told s c end.BadWords ends = absurd ends
command_told s c (end.Refused text) ends = record {
  nothing = λ e. absurd (unwritten 1 e);
  usage = λ e. absurd (omega (arith, e));
  refusal = λ e. ends.0;
  read_fault = λ e. absurd (omega (arith, e));
  write_fault = λ e. absurd (omega (arith, e));
  memory = λ e. absurd (omega (arith, e));
}
command_told s c (end.ReadFailed text) ends = record {
  nothing = λ e. absurd (unwritten 2 e);
  usage = λ e. absurd (omega (arith, e));
  refusal = λ e. absurd (omega (arith, e));
  read_fault = λ e. ends.1;
  write_fault = λ e. absurd (omega (arith, e));
  memory = λ e. absurd (omega (arith, e));
}
command_told s c end.WriteFailed ends = record {
  nothing = λ e. absurd (unwritten 3 e);
  usage = λ e. absurd (omega (arith, e));
  refusal = λ e. absurd (omega (arith, e));
  read_fault = λ e. absurd (omega (arith, e));
  write_fault = λ e. refl;
  memory = λ e. absurd (omega (arith, e));
}
command_told s c end.NoMemory ends = record {
  nothing = λ e. absurd (unwritten 4 e);
  usage = λ e. absurd (omega (arith, e));
  refusal = λ e. absurd (omega (arith, e));
  read_fault = λ e. absurd (omega (arith, e));
  write_fault = λ e. absurd (omega (arith, e));
  memory = λ e. refl;
}

pub told : (s : Seen) (command : Option Command) (e : Ending) → Ends s command e → IsErrorText s.files s.blame command (status_of e) (text_of e)
told s None e ends = subst (λ x. IsErrorText s.files s.blame None (status_of x) (text_of x)) (sym ends.0) (bad_words_told s None)
told s (Some c) e ends = command_told s c e ends
