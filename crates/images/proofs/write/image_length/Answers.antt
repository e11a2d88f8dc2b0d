use Rattle.std.proofs.Common.{arith}
use Rattle.images.specs.ImageLaws.{image_length, image_most}
use Rattle.images.proofs.write.image_length.Goals as goal

pub overflow_add-result-2 : goal.overflow_add-result-2
overflow_add-result-2 c = let valid = c.args.valid in
    record { fits = omega (arith, c.replicas_length.ensures, image_length valid.state, image_most valid.state valid.meets_rules) }
