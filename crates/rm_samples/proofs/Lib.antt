mod OneHospital
