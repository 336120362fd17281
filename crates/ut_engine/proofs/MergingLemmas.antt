-- What the end of a merge is told as.
use Rattle.std.proofs.Common.{◌≡◌, inl, inr, ℕ, Option, None, Some, Result, Ok, Err, IfOk, refl, ap}
use Rattle.std.specs.Option.{option_map}
use Rattle.ut_plain.specs.declared.stage.PendingMerge.{PendingMerge}
use Rattle.ut_plain.specs.declared.reply.Reply.TheVariants as replies
use Rattle.ut_engine.specs.Merging.{end_reply, EndsMerge}

-- its number is told, or that the disk failed
pub ends_told : {E : Type 0} (pending : Option PendingMerge) (result : Result ℕ E) → IfOk result (λ n. option_map (λ (m : PendingMerge). m.number) pending ≡ Some n) → EndsMerge pending (end_reply result)
ends_told None (Ok number) is = cc
ends_told (Some m) (Ok number) is = inl (ap (option_map replies.Merge) is)
ends_told pending (Err e) is = inr refl
