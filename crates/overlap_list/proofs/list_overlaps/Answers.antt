-- By the plain texts of the two left sides.
use Rattle.overlap_list.proofs.Texts.{left_long, left_count, left_front, values_listed}
use Rattle.overlap_list.proofs.list_overlaps.Goals as goal

pub slice_bounds-a-end : goal.slice_bounds-a-end
slice_bounds-a-end c = left_long c.args.left (c.put_left-n.ensures.value, c.put_left-n.ensures.out_after)

pub slice_bounds-list_texts-end : goal.slice_bounds-list_texts-end
slice_bounds-list_texts-end c = left_count c.args.left (c.put_left-n.ensures.value, c.put_left-n.ensures.out_after)

pub slice_bounds-b-end : goal.slice_bounds-b-end
slice_bounds-b-end c = left_long c.args.right (c.put_left-m.ensures.value, c.put_left-m.ensures.out_after)

pub slice_bounds-list_texts-end-2 : goal.slice_bounds-list_texts-end-2
slice_bounds-list_texts-end-2 c = left_count c.args.right (c.put_left-m.ensures.value, c.put_left-m.ensures.out_after)

pub returns : goal.returns
returns c =
    let z = c.args in
    values_listed z.left z.right
    (left_front z.left (c.put_left-n.ensures.value, c.put_left-n.ensures.out_after))
    (left_front z.right (c.put_left-m.ensures.value, c.put_left-m.ensures.out_after))
    c.list_texts.ensures
