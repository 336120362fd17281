-- A stream is read in one way, whatever pieces it comes in.
use Rattle.std.proofs.Common.{◌≡◌, ℕ, ◌<◌, ◌^◌, List, [], ◌∷◌, ◌++◌, length, refl, sym, ◌∙◌, ap, arith, append_assoc}
use Rattle.std.specs.List.{flat_map, AllByRecursion}
use Rattle.std.proofs.lemmas.Grind.{flat_map-append}
use Rattle.ut_value.specs.declared.entry.Entry.{Entry}
use Rattle.ut_redo.specs.Frames.{frame, payload_of, IsFrame}
use Rattle.ut_redo.proofs.FrameLemmas.{one_whole_frame, same_items}
use Rattle.ut_stream.specs.Streams.{IsStop, OneStream, StreamInPieces}
use Rattle.ut_stream.proofs.FrontLemmas.{stop_no_frame}

abbrev frame_of : List Entry → List ℕ
frame_of items = frame (payload_of items)

abbrev frames_of : List (List Entry) → List ℕ
frames_of frames = flat_map frame_of frames

one : (a b : List (List Entry)) (x y : List ℕ) → AllByRecursion IsFrame a → AllByRecursion IsFrame b → IsStop x → IsStop y → frames_of a ++ x ≡ frames_of b ++ y → (a ≡ b) × (x ≡ y)
one [] [] x y all alls stop stops same = (refl, same)
one [] (f ∷ b) x y all alls stop stops same = absurd (stop_no_frame x (frames_of b ++ y) f stop alls.0 (same ∙ append_assoc (frame_of f) (frames_of b) y))
one (f ∷ a) [] x y all alls stop stops same = absurd (stop_no_frame y (frames_of a ++ x) f stops all.0 (sym same ∙ append_assoc (frame_of f) (frames_of a) x))
one (f ∷ a) (g ∷ b) x y all alls stop stops same =
    let both : frame_of f ++ (frames_of a ++ x) ≡ frame_of g ++ (frames_of b ++ y) = sym (append_assoc (frame_of f) (frames_of a) x) ∙ same ∙ append_assoc (frame_of g) (frames_of b) y in
    let small : length (payload_of f) < 2 ^ 32 = let s = all.0.short in omega (arith, s) in
    let smalls : length (payload_of g) < 2 ^ 32 = let s = alls.0.short in omega (arith, s) in
    let first = one_whole_frame (payload_of f) (payload_of g) (frames_of a ++ x) (frames_of b ++ y) small smalls both in
    let rest = one a b x y all.1 alls.1 stop stops first.1 in
    let items : g ≡ f = same_items f g all.0.each alls.0.each first.0 in
    ((λ i. sym items i ∷ rest.0 i), rest.1)

pub one_stream : OneStream
one_stream bytes a b x y s t = one a b x y s.each t.each s.stop t.stop (sym s.are ∙ t.are)

all_both : (a b : List (List Entry)) → AllByRecursion IsFrame a → AllByRecursion IsFrame b → AllByRecursion IsFrame (a ++ b)
all_both [] b all alls = alls
all_both (f ∷ a) b all alls = (all.0, all_both a b all.1 alls)

pub in_pieces : StreamInPieces
in_pieces first second a b x y s t = record {
  are = ap (λ l. l ++ second) s.are ∙ append_assoc (frames_of a) x second ∙ ap (λ l. frames_of a ++ l) t.are ∙ sym (append_assoc (frames_of a) (frames_of b) y)
      ∙ ap (λ l. l ++ y) (sym (flat_map-append frame_of a b));
  each = all_both a b s.each t.each;
  stop = t.stop;
}
