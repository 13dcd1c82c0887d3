use Rattle.std.proofs.Common.{◌≡◌, ◌+◌, ◌-◌, ◌*◌, List, ◌++◌, length, take, drop, sym, refl, ap, ◌∙◌, ap₂, arith}
use borrow.Rule.Slice.PartMut.{put_mid}
use Rattle.fault.specs.declared.causes.Cause.TheVariants.{BufferShort}
use Rattle.fault.specs.Layers.{fault_at}
use Rattle.std.proofs.lemmas.List.{length-take-le, take_at}
use Rattle.std.specs.List.{flat_map}
use Rattle.plan.specs.Files.{file_of, header, record_of}
use Rattle.plan.specs.Rules.{lines_of}
use Rattle.plan.proofs.Files.{file_length, records_length, put_parts}
use Rattle.plan.proofs.Forms.{length_lines}
use Rattle.plan.proofs.plans.Plan.write.Goals as goal

pub returns-then-buffer-length : goal.returns-then-buffer-length
returns-then-buffer-length c =
    let long = file_length c.args.self.now.draft in
    record {
      wrote = (c.new.ensures ∙ ap (fault_at BufferShort) (sym long), omega (arith, c.if-buffer-length.true), refl);
      front = tt;
    }

pub returns : goal.returns
returns c =
    let d = c.args.self.now.draft in
    let b = c.args.buffer.now in
    let h = c.copy_from_slice.new.self in
    let r = c.write_records.new.part in
    let t = c.copy_from_slice-2.new.self in
    let m = 3 * d.lines in
    let n = d.houses in
    let h_is : h ≡ header d.houses d.lines d.capacity = c.copy_from_slice.ensures.after ∙ c.header.ensures in
    let r_is : r ≡ flat_map record_of (lines_of d) = c.write_records.ensures ∙ ap (flat_map record_of) c.list.ensures in
    let t_is : t ≡ take n d.counters = c.copy_from_slice-2.ensures.after in
    let h_long : length h ≡ 9 = ap length h_is in
    let r_long : length r ≡ m = ap length r_is ∙ records_length (lines_of d) ∙ ap (λ k. 3 * k) (length_lines d) in
    let t_long : length t ≡ n = ap length t_is ∙ length-take-le n d.counters (omega arith) in
    let m_is : 9 + m - 9 ≡ m = omega arith in
    let n_is : 9 + m + n - (9 + m) ≡ n = omega arith in
    let whole : List _ → List _ → List _ → List _ = λ x y z. (x ++ (y ++ z)) ++ drop (9 + m + n) b in
    let now-is =
    ap₂ (λ i j. put_mid (9 + m) j (put_mid 9 i (put_mid 0 9 b h) r) t) m_is n_is
    ∙ put_parts b h r t m n h_long r_long t_long
    ∙ ap (λ x. whole x r t) h_is
    ∙ ap₂ (λ y z. whole (header d.houses d.lines d.capacity) y z) r_is t_is in
    record {
      wrote = (sym (file_length d), omega (arith, c.if-buffer-length.false), now-is);
      front = ap (take (9 + m + n)) now-is ∙ take_at (file_of d) (drop (9 + m + n) b) (9 + m + n) (file_length d);
    }
