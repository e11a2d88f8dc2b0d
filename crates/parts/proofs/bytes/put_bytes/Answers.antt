use Rattle.std.specs.Prelude.{length, refl}
use Rattle.std.proofs.Common.{sym, ◌∙◌, arith}
use Rattle.std.proofs.lemmas.List.{take_all}
use Rattle.std.proofs.lemmas.List.Edits.{sets-eq}
use Rattle.std.proofs.lemmas.Slice.{put_mid-paste}
use Rattle.parts.proofs.bytes.put_bytes.Goals as goal

pub returns : goal.returns
returns c = let a = c.args in
    let bs = a.bytes.now in
    record {
      place = refl;
      list =
          put_mid-paste a.at _ a.out.now _ bs (length bs) c.copy_from_slice.ensures.after (omega arith) refl
          ∙ rw (take_all (length bs) bs (omega arith)) (sym (sets-eq bs a.out.now a.at c.requires));
    }
