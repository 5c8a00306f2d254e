use Rattle.std.proofs.Common.{refl}
use Rattle.jwt_request.specs.urls.Urls.{url_where}
use Rattle.jwt_request.specs.urls.References.{redirection}
use Rattle.jwt_request.specs.urls.Laws.{location_text}
use Rattle.jwt_request.proofs.urls.laws.examples_of_references.Goals as goal

pub returns : goal.returns
unfolding url_where location_text redirection
returns c =
    record {
      name = (refl, refl);
      folder = (refl, refl);
      path = (refl, refl);
      query = (refl, refl);
      name_query = (refl, refl);
      parameter = (refl, refl);
      name_parameter = (refl, refl);
      query_dot = (refl, refl);
      query_dots = (refl, refl);
      scheme = (refl, refl);
      scheme_alone = (refl, refl);
      host = (refl, refl);
      name_fragment = (refl, refl);
      query_fragment = (refl, refl);
      all_of_them = (refl, refl);
      fragment = refl;
      nothing = refl;
      dot_name = refl;
      dot = refl;
      dot_folder = refl;
      dots = refl;
      dots_folder = refl;
      dots_name = refl;
      dots_twice = refl;
      dots_twice_folder = refl;
      dots_twice_name = refl;
    }
