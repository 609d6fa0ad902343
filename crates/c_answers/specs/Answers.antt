-- Answers as C sees them: status 0 with the answer, 255 where there is none, and a refusal's number, with its place where it tells one; the
-- rest is zero. Definitions only.
use Rattle.std.specs.Prelude.{false, Bool, ℕ, Float, Option, None, Some, Result, Ok, Err}
use Rattle.std.specs.Result.{result_unwrap_or}
use Rattle.types.specs.declared.shape.Vec2.{Vec2}
use Rattle.types.specs.declared.shape.Vec3.{Vec3}
use Rattle.types.specs.declared.shape.Aabb2.{Aabb2}
use Rattle.types.specs.declared.shape.Aabb3.{Aabb3}
use Rattle.types.specs.declared.refusal.Refusal.{Refusal}
use Rattle.types.specs.declared.refusal.RefusalAt.{RefusalAt}
use Rattle.slabs.specs.declared.crossing.Crossing.{Crossing}
use Rattle.slabs.specs.declared.crossing.Crossing.TheVariants.{Miss, Hit}
use Rattle.slabs.specs.Entry.{number_of as edge_number_of}
use Rattle.types.specs.declared.answer.Pixels.{Pixels}
use Rattle.types.specs.Refusal.{number_of}
use Rattle.c_answers.specs.declared.FloatAnswer.{FloatAnswer}
use Rattle.c_answers.specs.declared.PointAnswer.{PointAnswer}
use Rattle.c_answers.specs.declared.Point3Answer.{Point3Answer}
use Rattle.c_answers.specs.declared.BoxAnswer.{BoxAnswer}
use Rattle.c_answers.specs.declared.Box3Answer.{Box3Answer}
use Rattle.c_answers.specs.declared.BoolAnswer.{BoolAnswer}
use Rattle.c_answers.specs.declared.IntervalAnswer.{IntervalAnswer}
use Rattle.c_answers.specs.declared.PixelsAnswer.{PixelsAnswer}
use Rattle.c_answers.specs.declared.CountAnswer.{CountAnswer}
use Rattle.c_answers.specs.declared.InkAnswer.{InkAnswer}
use Rattle.c_answers.specs.Status.{answered, none, status_of}
use Rattle.float.specs.Rounded.{+0}

abbrev pub no_point : Vec2
no_point = record { x = +0; y = +0 }

abbrev pub no_point3 : Vec3
no_point3 = record { x = +0; y = +0; z = +0 }

abbrev pub no_box : Aabb2
no_box = record { min_x = +0; min_y = +0; max_x = +0; max_y = +0 }

abbrev pub no_box3 : Aabb3
no_box3 = record { min_x = +0; min_y = +0; min_z = +0; max_x = +0; max_y = +0; max_z = +0 }

abbrev pub float_answer_of : Result Float Refusal → FloatAnswer
float_answer_of r = record { status = status_of r; value = result_unwrap_or r +0 }

abbrev pub optional_float_answer_of : Result (Option Float) Refusal → FloatAnswer
optional_float_answer_of (Ok (Some x)) = record { status = answered; value = x }
optional_float_answer_of (Ok None) = record { status = none; value = +0 }
optional_float_answer_of (Err refusal) = record { status = number_of refusal; value = +0 }

abbrev pub point_answer_of : Result Vec2 Refusal → PointAnswer
point_answer_of r = record { status = status_of r; value = result_unwrap_or r no_point }

abbrev pub optional_point_answer_of : Option Vec2 → PointAnswer
optional_point_answer_of (Some p) = record { status = answered; value = p }
optional_point_answer_of None = record { status = none; value = no_point }

abbrev pub point3_answer_of : Result Vec3 Refusal → Point3Answer
point3_answer_of r = record { status = status_of r; value = result_unwrap_or r no_point3 }

abbrev pub box_answer_of : Result Aabb2 Refusal → BoxAnswer
box_answer_of r = record { status = status_of r; value = result_unwrap_or r no_box }

abbrev pub box3_answer_of : Result Aabb3 Refusal → Box3Answer
box3_answer_of r = record { status = status_of r; value = result_unwrap_or r no_box3 }

abbrev pub bool_answer_of : Result Bool Refusal → BoolAnswer
bool_answer_of r = record { status = status_of r; value = result_unwrap_or r false }

abbrev pub interval_answer_of : Crossing → IntervalAnswer
interval_answer_of Miss = record { status = none; tmin = +0; tmax = +0; edge = 0 }
interval_answer_of (Hit a b edge) = record { status = answered; tmin = a; tmax = b; edge = edge_number_of edge }

abbrev pub pixels_answer_of : Result Pixels Refusal → PixelsAnswer
pixels_answer_of (Ok p) = record { status = answered; x0 = p.x0; y0 = p.y0; x1 = p.x1; y1 = p.y1 }
pixels_answer_of (Err refusal) = record { status = number_of refusal; x0 = 0; y0 = 0; x1 = 0; y1 = 0 }

abbrev pub count_answer_of : Result ℕ Refusal → CountAnswer
count_answer_of r = record { status = status_of r; count = result_unwrap_or r 0; place = 0 }

abbrev pub count_answer_at_of : Result ℕ RefusalAt → CountAnswer
count_answer_at_of (Ok n) = record { status = answered; count = n; place = 0 }
count_answer_at_of (Err at) = record { status = number_of at.refusal; count = 0; place = at.place }

abbrev pub ink_answer_of : Result Float RefusalAt → InkAnswer
ink_answer_of (Ok x) = record { status = answered; value = x; place = 0 }
ink_answer_of (Err at) = record { status = number_of at.refusal; value = +0; place = at.place }
