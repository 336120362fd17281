use Rattle.std.proofs.Common.{◌≡◌, map, take, string_bytes}
use Rattle.check_top.proofs.words.ListedWords.words.Given as goal

abbrev pub invariant-loop-word : goal.invariant-loop-word
invariant-loop-word l = map string_bytes l.words.items ≡ map (λ w. w.now) (take l.word-index l.self.words.now)
